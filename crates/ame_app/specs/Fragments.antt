-- The meaning of code, values and machines of programs.
use Rattle.ame_laws.specs.Typed.Listed.{signature_of}
use Rattle.ame_machine.specs.Meaning.{Meaning}
use Rattle.ame_code.specs.FlatCode.{FlatCode}
use Rattle.ame_code.specs.Code.{program_of}
use Rattle.ame_value.specs.declared.val.Val.{Val}
use Rattle.ame_eval.specs.Values.{value_meant, IsMadeValue}
use Rattle.ame_eval.specs.Fragments.{IsFragmentOf, stage_of}
use Rattle.ame_eval.specs.declared.fragment.Fragment.{Fragment}

abbrev pub fragments : Meaning FlatCode Val Fragment
fragments = record {
  program = λ code. program_of code;
  signature = λ code. signature_of code.accepted;
  is_value = λ code v. IsMadeValue code v;
  value_of = λ code v. value_meant code v;
  is_machine = λ code m. IsFragmentOf code m;
  stage = λ code m. stage_of code m;
}
