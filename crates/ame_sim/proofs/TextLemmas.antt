-- The text of a schedule.
use Rattle.std.proofs.Common.{◌≡◌, ◌≢◌, ℕ, List, ◌++◌, codes, refl, sym, ◌∙◌, append_assoc, arith}
use Rattle.std.proofs.lemmas.List.{append_cancel_left}
use Rattle.ame_sim.specs.declared.schedule.fault.ScheduleFault.{ScheduleFault}
use Rattle.ame_sim.specs.Schedule.{signs, schedule_line, IsScheduled, ExplainsSchedule, TakesSigns}
use Rattle.ame_sim.proofs.SignLemmas.{signs-same, low-no_sign}

-- the text in three parts: the text before the signs, the signs, and the text after them
parts : (picks program : List ℕ) → schedule_line picks ++ (codes "program\n" ++ program) ≡ codes "schedule " ++ (signs picks ++ (codes "\nprogram\n" ++ program))
parts picks program = simp append_assoc refl

-- The text after the signs is determined, so if it doesn't begin with these lines, the whole is no schedule's.
pub no_program : (text line picks rest : List ℕ) → text ≡ codes "schedule " ++ line → TakesSigns line picks rest →
    ((program : List ℕ) → rest ≢ codes "\nprogram\n" ++ program) → ExplainsSchedule text ScheduleFault.BadSchedule
no_program text line picks rest front taken none others program is =
    let same : line ≡ signs others ++ (codes "\nprogram\n" ++ program) = append_cancel_left (codes "schedule ") line _ (sym front ∙ is.spelled ∙ parts others program) in
    none program (signs-same picks others rest (codes "\nprogram\n" ++ program) taken.seats is.seats taken.all (low-no_sign 10 _ (omega arith)) (sym taken.spelled ∙ same)).1

-- A text is that of one schedule at most, with one program.
pub scheduled-same : (text picks others program other : List ℕ) → IsScheduled text picks program → IsScheduled text others other → (picks ≡ others) × (program ≡ other)
scheduled-same text picks others program other one two =
    let same : signs picks ++ (codes "\nprogram\n" ++ program) ≡ signs others ++ (codes "\nprogram\n" ++ other) =
    append_cancel_left (codes "schedule ") _ _ (sym (parts picks program) ∙ sym one.spelled ∙ two.spelled ∙ parts others other) in
    let split = signs-same picks others _ _ one.seats two.seats (low-no_sign 10 _ (omega arith)) (low-no_sign 10 _ (omega arith)) same in
    (split.0, append_cancel_left (codes "\nprogram\n") program other split.1)
