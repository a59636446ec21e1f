-- For what an accepted program is typed.
use Rattle.std.specs.Prelude.{map}
use Rattle.ame_term.specs.View.{typ_of}
use Rattle.ame_term.specs.Signature.{Signature, listed}
use Rattle.ame_term.specs.declared.accepted.Accepted.{Accepted}

-- its devices, and the types that its `ref` forms store
abbrev pub signature_of : Accepted → Signature
signature_of accepted = listed accepted.devices (map typ_of accepted.ref_tys.items)
