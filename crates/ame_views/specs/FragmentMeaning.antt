-- The meaning of code, values and fragments of programs.
use Rattle.ame_laws.specs.Typed.Listed.{signature_of}
use Rattle.ame_machine.specs.Meaning.{Meaning}
use Rattle.ame_code.specs.FlatCode.{FlatCode}
use Rattle.ame_code.specs.Code.{program_of}
use Rattle.ame_value.specs.declared.val.Val.{Val}
use Rattle.ame_eval.specs.Values.{value_meant, IsMadeValue}
use Rattle.ame_eval.specs.Fragments.{stage_of, IsFragmentOf}
use Rattle.ame_eval.specs.declared.fragment.Fragment.{Fragment}

abbrev pub fragment_meaning : Meaning FlatCode Val Fragment
fragment_meaning = record {
  program = λ code. program_of code;
  signature = λ code. signature_of code.accepted;
  is_value = λ code v. IsMadeValue code v;
  value_of = λ code v. value_meant code v;
  is_machine = λ code m. IsFragmentOf code m;
  stage = λ code m. stage_of code m;
}
