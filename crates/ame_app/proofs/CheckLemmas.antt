-- Statuses of a certificate.
use Rattle.std.proofs.Common.{◌≡◌, ◌≢◌, ◌⊎◌, inl, inr, ℕ, ◌+◌, List, take, drop, sym, ap, ◌∙◌, subst}
use Rattle.ame_lex.specs.Bytes.{Text}
use Rattle.ame_term.specs.Tree.{Tree}
use Rattle.ame_journal.specs.declared.entry.Entry.{Entry}
use Rattle.ame_journal.specs.Text.{IsText, IsFirstBadLine}
use Rattle.ame_journal.proofs.UniqueLemmas.{text_of-same, not_bad, one_bad}
use Rattle.ame_app.proofs.JudgedLemmas.{split-same, invalid-one, invalid-leads, long-one, long-short}
use Rattle.ame_app.specs.declared.parts.Front.{Front}
use Rattle.ame_app.specs.declared.parts.ReportPart.{ReportPart}
use Rattle.ame_app.specs.declared.status.Status.{Status}
use Rattle.ame_app.specs.Verbs.Check.{TakesCertificate, HasNoProgram, HasBadEntry, HasNoCertificate, entries_before, TellsOfJournal}

-- a certificate has one text, and one journal
pub certificate-one : (bytes : List ℕ) (front other : Front) (text also : Text) → TakesCertificate bytes front text → TakesCertificate bytes other also
    → (text ≡ also) × (entries_before front ≡ entries_before other)
certificate-one bytes front other text also one two =
    let same = split-same bytes one.before one.start two.before two.start one.split two.split in
    let lines = subst (λ (n : ℕ). IsText (take n bytes) one.journal.entries) same.0 one.lines_are in
    let entries : one.journal.entries ≡ two.journal.entries =
    text_of-same one.journal.entries two.journal.entries lines.spellable two.lines_are.spellable (sym lines.spelled ∙ two.lines_are.spelled) in
    (one.text_is ∙ ap (λ (n : ℕ). drop n bytes) same.1 ∙ sym two.text_is, ap entries_before one.front_is ∙ entries ∙ ap entries_before (sym two.front_is))

-- bytes that are a certificate don't have the status of bytes that are none
pub certificate-none : (bytes : List ℕ) (front : Front) (text : Text) (told : Status) → TakesCertificate bytes front text → HasNoCertificate bytes told → ⊥
certificate-none bytes front text told takes none = elim none.why [
  | inl missing ↦ missing.none takes.before takes.split.line
  | inr bad ↦ bad-not bad
]
  where
    bad-not : HasBadEntry bytes none.line → ⊥
    bad-not bad =
        let same = split-same bytes takes.before takes.start bad.before bad.start takes.split bad.split in
        let lines = subst (λ (n : ℕ). IsText (take n bytes) takes.journal.entries) same.0 takes.lines_are in
        not_bad takes.journal.entries bad.bad.before bad.bad.left lines.spellable bad.bad.reads bad.bad.follows bad.bad.bad (sym lines.spelled ∙ bad.bad.split)

-- bytes that are no certificate have one line
line-one : (bytes : List ℕ) (m n : ℕ) → HasNoProgram bytes m ⊎ HasBadEntry bytes m → HasNoProgram bytes n ⊎ HasBadEntry bytes n → m ≡ n
line-one bytes m n (inl one) (inl two) = one.count ∙ sym two.count
line-one bytes m n (inl one) (inr two) = absurd (one.none two.before two.split.line)
line-one bytes m n (inr one) (inl two) = absurd (two.none one.before one.split.line)
line-one bytes m n (inr one) (inr two) =
    let same = split-same bytes one.before one.start two.before two.start one.split two.split in
    let bad = subst (λ (k : ℕ). IsFirstBadLine (take k bytes) m) same.0 one.bad in
    bad.count
    ∙ ap (λ (k : ℕ). k + 1) (one_bad bad.before two.bad.before bad.left two.bad.left bad.reads two.bad.reads bad.bad two.bad.bad (sym bad.split ∙ two.bad.split))
    ∙ sym two.bad.count

pub bad-one : (bytes : List ℕ) (told other : Status) → HasNoCertificate bytes told → HasNoCertificate bytes other → told ≡ other
bad-one bytes told other one two = one.told_is ∙ ap Status.BadJournal (line-one bytes one.line two.line one.why two.why) ∙ sym two.told_is

-- the status of bytes that are no certificate is no fault of the sink
pub bad-other : (bytes : List ℕ) (told : Status) → HasNoCertificate bytes told → told ≢ Status.WriteFault
bad-other bytes told none = λ e. absurd (let clash : Status.BadJournal none.line ≡ Status.WriteFault = sym none.told_is ∙ e in cc)

-- a journal has one status
pub journal-one : (program : Tree) (entries : List Entry) (ahead more : List ℕ) (own also : ReportPart) (told other : Status)
    → TellsOfJournal program entries ahead own told → TellsOfJournal program entries more also other → told ≡ other
journal-one program entries ahead more own also (Status.Valid n) (Status.Valid m) one two = ap Status.Valid (one.count ∙ sym two.count)
journal-one program entries ahead more own also (Status.Valid n) (Status.Invalid m) one two =
    absurd (invalid-leads program entries m two.why one.output two.invalid one.leads)
journal-one program entries ahead more own also (Status.Valid n) (Status.LongJournal m) one two = absurd (long-short entries m two.long one.leads.short)
journal-one program entries ahead more own also (Status.Valid n) other one two = absurd two
journal-one program entries ahead more own also (Status.Invalid n) (Status.Valid m) one two =
    absurd (invalid-leads program entries n one.why two.output one.invalid two.leads)
journal-one program entries ahead more own also (Status.Invalid n) (Status.Invalid m) one two =
    ap Status.Invalid (invalid-one program entries n m one.why two.why one.invalid two.invalid)
journal-one program entries ahead more own also (Status.Invalid n) (Status.LongJournal m) one two = absurd (long-short entries m two.long one.invalid.short)
journal-one program entries ahead more own also (Status.Invalid n) other one two = absurd two
journal-one program entries ahead more own also (Status.LongJournal n) (Status.Valid m) one two = absurd (long-short entries n one.long two.leads.short)
journal-one program entries ahead more own also (Status.LongJournal n) (Status.Invalid m) one two = absurd (long-short entries n one.long two.invalid.short)
journal-one program entries ahead more own also (Status.LongJournal n) (Status.LongJournal m) one two = ap Status.LongJournal (long-one entries n m one.long two.long)
journal-one program entries ahead more own also (Status.LongJournal n) other one two = absurd two
journal-one program entries ahead more own also told other one two = absurd one

-- the status of a journal is no fault of the sink
pub journal-other : (program : Tree) (entries : List Entry) (ahead : List ℕ) (own : ReportPart) (told : Status) → TellsOfJournal program entries ahead own told
    → told ≢ Status.WriteFault
journal-other program entries ahead own Status.WriteFault tells = absurd tells
journal-other program entries ahead own told tells = λ e. absurd (cc)
