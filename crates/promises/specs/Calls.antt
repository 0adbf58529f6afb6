-- What is promised of a call, in the words of Rattle's own logic.
use seplogic.Ra.Ura.{Ura}
use base.Logic.{emp}
use mir.Syntax.{Callee}
use prog.Model.{Model}
use prog.Wired.{Code, Wired}
use types.Logic.{Logic}
use contract.Monad.{fact}
use contract.Lifetimes.{Lfts}
use contract.Running.{Running}
use denote.Triple.Entry.{Args, Res}
use denote.Triple.Spec.{Meets}
use denote.Triple.Clauses.{Ended, AtExit, Clauses, closing}

-- a claim about the arguments of a call with some signature, its answer, and its arguments as they are afterwards
abbrev pub Claim : Ended → Type 1
Claim T = (κs : Lfts T.signature.lifetimes) → Args T.signature κs → Res T.signature κs → AtExit T κs → Type 0

-- the clauses of a contract that requires nothing and ensures a claim
abbrev pub ensuring : (T : Ended) → Claim T → {M : Type 1} (𝓤 : Ura M) → Clauses 𝓤 T
ensuring T says 𝓤 κs a = record { ghost = Unit {0}; requires = λ g. emp 𝓤; ensures = λ g r e. fact 𝓤 (says κs a r e) }

-- Run on any arguments, in any model of the machine whose environment has the code of the call and of what it calls, the call of this name
-- ends with an answer, and the claim holds of it.
abbrev pub Call : Callee → Code → (T : Ended) → Claim T → Type 2
Call name code T says =
    (M : Type 1) (𝓤 : Ura M) (𝓛 : Logic 𝓤) (𝓜 : Model 𝓤 𝓛.H) (𝓡 : Running 𝓤 𝓛.H 𝓜)
    → Wired 𝓡.env code
    → Meets 𝓛 T.signature (𝓡.run (𝓡.env name)) (closing 𝓛 T (ensuring T says 𝓤))
