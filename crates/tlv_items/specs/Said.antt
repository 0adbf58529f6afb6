-- What the end report of the code says.
use Rattle.tlv_items.specs.declared.item.End.{End}
use Rattle.tlv_items.specs.Walk.{EndReport, whole, cut}

abbrev pub said_end : End → EndReport
said_end (End.Whole items) = record { count = items; ending = whole }
said_end (End.Cut at items) = record { count = items; ending = cut at }
