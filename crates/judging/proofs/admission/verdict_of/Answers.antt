use mathlib.Core.Path.{◌≡◌, sym, ap, ◌∙◌}
use mathlib.Core.Bool.{true}
use native.Mathlib.Omega.{arith}
use Prim.Native.Nat.{ℕ}
use mathlib.Core.List.{List}
use lib.ListN.{length}
use Rattle.std.proofs.lemmas.Result.{err_from_is_err_and}
use Rattle.arith.specs.Asking.{first_no}
use Rattle.arith.specs.Choice.{every}
use Rattle.plan.specs.declared.Task.{Task}
use Rattle.plan.specs.Blocks.{tasks_of}
use Rattle.plan.specs.Questions.{in_range, floor_loaded}
use Rattle.levels.specs.Code.{loaded}
use Rattle.levels.proofs.Tables.{levels_are}
use Rattle.judging.specs.Ranges.{ranges_no}
use Rattle.judging.proofs.admission.Admissions.{ranged, refused_ranges, ranged_yes}
use Rattle.judging.proofs.admission.verdict_of.Goals.{Start, In_ok-ranges_asked}
use Rattle.judging.proofs.admission.verdict_of.Goals as goal

abbrev tasks : Start → List Task
tasks c = tasks_of c.args.p

-- the levels' speeds, and how many they are
abbrev speeds : Start → List ℕ
speeds c = loaded c.args.table.now.speeds c.args.table.now.levels

-- what 6 and 24 ask of so many levels, they ask of these
asked : (c : Start) → ranges_no c.args.table.now.levels (tasks_of c.args.p) ≡ first_no (ranged (loaded c.args.table.now.speeds c.args.table.now.levels) (tasks_of c.args.p))
asked c = ap (λ (n : ℕ). ranges_no n (tasks_of c.args.p)) (sym (levels_are c.args.table.now.known))

pub returns-in_err-ranges_asked : goal.returns-in_err-ranges_asked
returns-in_err-ranges_asked c =
    let s = (goal.at.returns-in_err-ranges_asked c).Start in
    let p = err_from_is_err_and c.from_residual.result c.from_residual.ensures.1 in
    let no = c.in_err-ranges_asked.ensures in
    rw (p.1, p.2) (refused_ranges (speeds s) (tasks s) c.in_err-ranges_asked.field-0.0.number (λ z. omega (arith, no.0, z)) (sym no.1 ∙ asked s))

ranges : (c : In_ok-ranges_asked) → (every in_range (tasks_of c.args.p) ≡ true) × (every (floor_loaded (length (loaded c.args.table.now.speeds c.args.table.now.levels))) (tasks_of c.args.p) ≡ true)
ranges c =
    let asked : ranges_no c.args.table.now.levels (tasks_of c.args.p) ≡ first_no (ranged (loaded c.args.table.now.speeds c.args.table.now.levels) (tasks_of c.args.p)) = ap (λ (n : ℕ). ranges_no n (tasks_of c.args.p)) (sym (levels_are c.args.table.now.known)) in
    ranged_yes (loaded c.args.table.now.speeds c.args.table.now.levels) (tasks_of c.args.p) c.in_ok-ranges_asked.ensures asked
