-- `bench`: a text that is generated, and no source. Its run is that of `run`.
use Rattle.std.specs.Prelude.{◌≡◌, ℕ}
use Rattle.ame_lex.specs.Bytes.{Text}
use Rattle.ame_gen.specs.Template.{program_text}
use Rattle.ame_app.specs.declared.parts.Front.{Front}

-- the text is that of this seed and size
abbrev pub TakesGenerated : ℕ → ℕ → Front → Text → Type 0
TakesGenerated seed size front text = (front ≡ Front.Nothing) × (text ≡ program_text seed size)
