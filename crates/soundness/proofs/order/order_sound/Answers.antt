use Prim.Native.Nat.{ℕ, ◌<◌, max}
use mathlib.Core.Path.{◌≡◌, refl, sym, ap, ap₂, ◌∙◌}
use mathlib.Core.Bool.{true}
use mathlib.Core.List.{List}
use native.Mathlib.Omega.{arith}
use lib.Dec.{leb, eqb}
use lib.ListN.{get_or}
use Rattle.arith.proofs.QuestionLaws.{within_high}
use Rattle.plan.specs.Times.{time_of}
use Rattle.levels.specs.Code.{loaded}
use Rattle.levels.proofs.Tables.{speed_positive, speed_most}
use Rattle.reclaiming.specs.StateBlock.{rest_in, floor_of, decode}
use Rattle.reclaiming.specs.Questions.{level_sound}
use Rattle.state.specs.Code.{entry_in}
use Rattle.state.proofs.BlockLaws.{task_byte, level_byte}
use Rattle.urgency.proofs.HeadLaws.{Looked, Told, first_open, told_floor}
use Rattle.orders.specs.Lone.{allowed_until}
use Rattle.orders.proofs.lone.LoneLaws.{next_short}
use Rattle.soundness.proofs.order.OrderTests.{Weighed, level_in, not_idle, idle_level, other_task, level_unsound, level_meets}
use Rattle.soundness.proofs.order.order_sound.Goals.{After-level_sound, After-most_urgent-best, After-task_in, Else-not-level_sound, Else-task-task_in}
use Rattle.soundness.proofs.order.order_sound.Goals as goal

-- a key was looked for, it tells a task, and that is the order's
looked : (c : After-most_urgent-best) →
    Looked (loaded c.args.table.now.speeds c.args.table.now.levels) c.args.block.now c.args.keys.now c.args.count c.most_urgent-best.result
looked c = record {
  holds = c.requires.holds.0;
  keyed = c.requires.keyed;
  same = c.requires.holds.1;
  found = c.most_urgent-best.ensures;
}

told : (c : After-task_in) →
    Looked (loaded c.args.table.now.speeds c.args.table.now.levels) c.args.block.now c.args.keys.now c.args.count c.most_urgent-best.result →
    Told (loaded c.args.table.now.speeds c.args.table.now.levels) c.args.block.now c.args.keys.now c.args.count c.most_urgent-best.result c.task_in.result
told c k = record { looked = k; some = λ e. omega (arith, e); task = c.task_in.ensures.0 }

runs : (c : Else-task-task_in) →
    Told (loaded c.args.table.now.speeds c.args.table.now.levels) c.args.block.now c.args.keys.now c.args.count c.most_urgent-best.result c.task_in.result →
    Told (loaded c.args.table.now.speeds c.args.table.now.levels) c.args.block.now c.args.keys.now c.args.count c.most_urgent-best.result (decode c.args.block.now).task
runs c k = record { looked = k.looked; some = k.some; task = omega (arith, c.if-task-task_in.false, k.task, task_byte c.args.block.now) }

-- whether its level is sound, as it was asked
level_told : (c : After-level_sound) →
    Told (loaded c.args.table.now.speeds c.args.table.now.levels) c.args.block.now c.args.keys.now c.args.count c.most_urgent-best.result (decode c.args.block.now).task →
    c.level_sound.result ≡ level_in c.args.block.now c.args.highest
level_told c k =
    let b : List ℕ = c.args.block.now in
    let floor = c.floor_at-floor.ensures ∙ ap (λ (n : ℕ). (entry_in b n).floor) (task_byte b) in
    c.level_sound.ensures ∙ ap₂ (level_sound c.args.highest) (told_floor k floor) (level_byte b)

-- where it is, it is one of the table's
level_low : (c : Else-not-level_sound) →
    Told (loaded c.args.table.now.speeds c.args.table.now.levels) c.args.block.now c.args.keys.now c.args.count c.most_urgent-best.result (decode c.args.block.now).task →
    level_in c.args.block.now c.args.highest ≡ true →
    (decode c.args.block.now).level < c.args.table.now.levels
level_low c k well =
    let b : List ℕ = c.args.block.now in
    let floor : ℕ = floor_of (decode b) (decode b).task in
    omega (
      arith,
      within_high floor (max c.args.highest floor) (decode b).level well,
      c.requires.holds.2,
      c.requires.by_index (decode b).task (omega (arith, (first_open k).below, k.looked.same)),
    )

pub returns-then-task-ne255 : goal.returns-then-task-ne255
returns-then-task-ne255 c =
    not_idle (looked (goal.at.returns-then-task-ne255 c).After-most_urgent-best) c.args.highest (omega arith)
    (λ e. omega (arith, e, task_byte c.args.block.now))

pub returns-then-best-eq-NO_KEY : goal.returns-then-best-eq-NO_KEY
returns-then-best-eq-NO_KEY c =
    ap (λ (n : ℕ). eqb n 0) (level_byte c.args.block.now)
    ∙ idle_level (looked (goal.at.returns-then-best-eq-NO_KEY c).After-most_urgent-best) c.args.highest (omega arith)
    (omega (arith, task_byte c.args.block.now))

pub returns-then-task-task_in : goal.returns-then-task-task_in
returns-then-task-task_in c =
    let at = goal.at.returns-then-task-task_in c in
    other_task (told at.After-task_in (looked at.After-most_urgent-best)) c.args.highest
    (λ e. c.if-task-task_in.true (task_byte c.args.block.now ∙ e))

pub returns-then-not-level_sound : goal.returns-then-not-level_sound
returns-then-not-level_sound c =
    let at = goal.at.returns-then-not-level_sound c in
    let k = runs at.Else-task-task_in (told at.After-task_in (looked at.After-most_urgent-best)) in
    level_unsound k c.args.highest (sym (level_told at.After-level_sound k) ∙ c.if-not-level_sound.true)

pub bounds-table-level : goal.bounds-table-level
bounds-table-level c =
    let at = goal.at.bounds-table-level c in
    let k = runs at.Else-task-task_in (told at.After-task_in (looked at.After-most_urgent-best)) in
    let well = sym (level_told at.After-level_sound k) ∙ c.if-not-level_sound.false in
    omega (arith, level_low at.Else-not-level_sound k well, level_byte c.args.block.now, c.args.table.now.known.few)

pub meets_until-requires : goal.meets_until-requires
meets_until-requires c =
    let at = goal.at.meets_until-requires c in
    let b : List ℕ = c.args.block.now in
    let k = runs at.Else-task-task_in (told at.After-task_in (looked at.After-most_urgent-best)) in
    let well = sym (level_told at.After-level_sound k) ∙ c.if-not-level_sound.false in
    let low = level_low at.Else-not-level_sound k well in (
      omega (arith, k.looked.holds.few, k.looked.same),
      k.looked.holds.size,
      omega (arith, next_short (loaded c.args.table.now.speeds c.args.table.now.levels) b k.looked.keyed (omega (arith, (first_open k).below)) c.requires.next_value),
      speed_positive c.args.table.now.known _ (omega (arith, low, level_byte b)),
      speed_most c.args.table.now.known _ (omega (arith, low, level_byte b)),
    )

pub returns : goal.returns
returns c =
    let at = goal.at.returns c in
    let b : List ℕ = c.args.block.now in
    let l : List ℕ = c.args.keys.now in
    let best : ℕ = c.most_urgent-best.result in
    let allowed : ℕ = allowed_until b l c.args.count best c.args.next in
    let k = runs at.Else-task-task_in (told at.After-task_in (looked at.After-most_urgent-best)) in
    let well = sym (level_told at.After-level_sound k) ∙ c.if-not-level_sound.false in
    let weighed : Weighed c.args.table.now.speeds c.args.table.now.levels b l c.args.count best c.args.highest c.rest_at-rest.result c.args.next allowed c.meets_until.result = record {
      table = c.args.table.now.known;
      read = record {
        told = k;
        rest_in = c.rest_at-rest.ensures.0 ∙ ap (λ (n : ℕ). rest_in (entry_in b n)) (task_byte b);
        arrival = c.requires.next_value;
        allowed_in = refl;
      };
      low = level_low at.Else-not-level_sound k well;
      sound = well;
      found_is = c.meets_until.ensures ∙ ap (λ (n : ℕ). leb (time_of (get_or c.args.table.now.speeds n 0) c.rest_at-rest.result) allowed) (level_byte b);
    } in
    level_meets weighed
