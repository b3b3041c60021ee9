-- The tasks of a plan as the code holds it: whether each passes a test, the number that 6 and 24 give, and their hyperperiod, as far as each loop has
-- come.
-- Assumes nothing.
use Prim.Native.Nat.{ℕ, suc, ◌+◌, ◌<◌, ◌≤◌}
use mathlib.Core.Path.{◌≡◌, sym, subst, ap, ◌∙◌}
use mathlib.Core.Bool.{Bool, true, false}
use mathlib.Core.List.{List, [], ◌∷◌, ◌++◌}
use native.Mathlib.Numerals.{add-one}
use mathlib.Core.Logic.{◌⊎◌}
use native.Mathlib.Omega.{arith}
use borrow.Author.Tests.{le-leb, lt-leb}
use lib.Dec.{leb}
use lib.ListN.{length, get_or, take, drop, length-append}
use lib.Seq.{get_or-append_seam, take-append_seam, get_or-take}
use Rattle.std.proofs.lemmas.List.{take-take}
use Rattle.arith.specs.Choice.{every}
use Rattle.arith.specs.Divisor.{lcm}
use Rattle.plan.specs.declared.Task.{Task}
use Rattle.plan.specs.declared.Plan.{Plan}
use Rattle.plan.specs.Levels.{hyperperiod}
use Rattle.plan.specs.Blocks.{no_task, tasks_of}
use Rattle.plan.specs.Questions.{in_range, floor_loaded}
use Rattle.arith.proofs.Loops.{rest_cons}
use Rattle.arith.proofs.Tests.{both_false}
use Rattle.plan.proofs.Held.{Ranged, listed, task_at_lem}
use Rattle.plan.proofs.LevelLaws.{hyperperiod_drop, range_positive}

pub period_low : (t : Task) → t.period < 1 → false ≡ in_range t
period_low t h = simp (lt-leb 1 t.period h)

pub period_high : (t : Task) → 65535 < t.period → false ≡ in_range t
period_high t h = simp (lt-leb t.period 65535 h, both_false)

pub worst_low : (t : Task) → 1 ≤ t.period → t.period ≤ 65535 → t.worst < 1 → false ≡ in_range t
worst_low t a b h = simp (le-leb 1 t.period a, le-leb t.period 65535 b, lt-leb 1 t.worst h)

pub worst_high : (t : Task) → 1 ≤ t.period → t.period ≤ 65535 → 1048575 < t.worst → false ≡ in_range t
worst_high t a b h = simp (le-leb 1 t.period a, le-leb t.period 65535 b, lt-leb t.worst 1048575 h, both_false)

pub fixed_high :
    (t : Task) → 1 ≤ t.period → t.period ≤ 65535 → 1 ≤ t.worst → t.worst ≤ 1048575 → leb t.fixed 255 ≡ in_range t
fixed_high t a b l h =
    simp (le-leb 1 t.period a, le-leb t.period 65535 b, le-leb 1 t.worst l, le-leb t.worst 1048575 h)

-- a loop that puts a test to each task: those before i pass it
pub record Scanned (test : Task → Bool) (p : Plan) (i : ℕ) : Type 0 where
  pub within : i ≤ p.count
  pub rest : every test (drop i (tasks_of p)) ≡ every test (tasks_of p)

-- the loop that takes the periods in goes from the last task to the first: h is the hyperperiod of the tasks from i on
pub record Spanned (p : Plan) (i h : ℕ) : Type 0 where
  pub within : i ≤ p.count
  pub span : h ≡ hyperperiod (drop i (tasks_of p))
  pub small : h ≤ 1000000

-- the walk over the tasks from the last one: those that are left, of which t comes next
pub record Next (p : Plan) (left before : List Task) (t : Task) (h : ℕ) : Type 0 where
  pub plan : Ranged p
  pub first : left ≡ take (length left) (tasks_of p)
  pub at : Spanned p (length left) h
  pub split : left ≡ before ++ (t ∷ [])

module _ {p : Plan} {left before : List Task} {t : Task} {h : ℕ} (w : Next p left before t h) where
  one : length left ≡ suc (length before)
  one = ap length w.split ∙ length-append before (t ∷ []) ∙ omega arith

  pub next_is : t ≡ get_or p.tasks (length before) no_task
  next_is =
      sym (get_or-append_seam before t [] no_task)
      ∙ ap (λ (l : List Task). get_or l (length before) no_task) (sym w.split ∙ w.first)
      ∙ get_or-take (length left) (tasks_of p) (length before) no_task (omega (arith, one))
      ∙ get_or-take p.count p.tasks (length before) no_task (omega (arith, one, w.at.within))

  pub next_first : before ≡ take (length before) (tasks_of p)
  next_first =
      sym (take-append_seam before (t ∷ []))
      ∙ ap (take (length before)) (sym w.split ∙ w.first)
      ∙ take-take (length before) (length left) (tasks_of p) (omega (arith, one))

  pub next_positive : 0 < t.period
  next_positive =
      subst (λ (x : Task). 0 < x.period) (sym next_is) (task_at_lem w.plan (length before) (omega (arith, one, w.at.within))).period_low

  module _ {m : ℕ} (e : m ≡ lcm t.period h) where
    widened : m ≡ hyperperiod (drop (length before) (tasks_of p))
    widened =
        e
        ∙ ap (λ (x : ℕ). lcm t.period x) (w.at.span ∙ ap (λ (k : ℕ). hyperperiod (drop k (tasks_of p))) (one ∙ sym (add-one (length before))))
        ∙ ap (λ (x : Task). lcm x.period (hyperperiod (drop (length before + 1) (tasks_of p)))) next_is
        ∙ sym (ap hyperperiod (rest_cons p.tasks p.count (length before) no_task (listed w.plan.held) (omega (arith, one, w.at.within))))

    pub spanned_over : 1000000 < m → 1000000 < hyperperiod (tasks_of p)
    spanned_over lt =
        omega (arith, widened, hyperperiod_drop (tasks_of p) (range_positive (tasks_of p) w.plan.ranges) (length before))

    pub spanned_more : m ≤ 1000000 → Spanned p (length before) m
    spanned_more le = record { within = omega (arith, one, w.at.within); span = widened; small = le }

-- the walk that asks 6 and 24: the tasks before i are in range, and it is told whether each floor among them is a level
pub record Ranging (levels : ℕ) (p : Plan) (loaded : Bool) (i : ℕ) : Type 0 where
  pub ranges : Scanned in_range p i
  pub floors : ((loaded ≡ true) × Scanned (floor_loaded levels) p i) ⊎ ((loaded ≡ false) × (every (floor_loaded levels) (tasks_of p) ≡ false))
