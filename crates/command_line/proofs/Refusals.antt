-- What an error of the command line says of what is asked.
use Rattle.std.proofs.Common.{◌≡◌, [], ◌∷◌, Option, None, inl, inr, refl}
use Rattle.clap.specs.Words.{kind_of}
use Rattle.clap.specs.Kinds.{HasKind, Kinds}
use Rattle.clap.specs.declared.error.Error.{Error}
use Rattle.clap.specs.declared.error.kind.ErrorKind.TheVariants.{OutOfMemory}
use Rattle.command_line.specs.Asking.{where_taken}

-- an error for another cause than memory comes only where the words may give one
pub may_fail : (kinds : Kinds) (e : Error) → HasKind kinds e → (kind_of e ≡ OutOfMemory → ⊥) → kinds ≡ [] → ⊥
may_fail [] e (inl memory) free none = free memory
may_fail [] e (inr among) free none = among
may_fail (k ∷ ks) e h free none = cc

-- and so only where nothing is asked
pub none_asked : {A : Type 0} (kinds : Kinds) (asked : Option A) (e : Error) → HasKind kinds e → (kind_of e ≡ OutOfMemory → ⊥) → where_taken kinds asked ≡ None
none_asked [] asked e h free = absurd (may_fail [] e h free refl)
none_asked (k ∷ ks) asked e h free = refl
