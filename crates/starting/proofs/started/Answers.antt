use Prim.Native.Nat.{ℕ, ◌<◌}
use mathlib.Core.Path.{◌≡◌, sym, subst}
use mathlib.Core.Bool.{true}
use mathlib.Core.List.{List}
use native.Mathlib.Omega.{arith}
use borrow.Author.Rules.{rules}
use lib.ListN.{length}
use Rattle.std.specs.declared.result.Result.TheVariants.{Ok}
use Rattle.arith.specs.Choice.{every}
use Rattle.arith.proofs.Loops.{length_mapped}
use Rattle.plan.specs.Blocks.{tasks_of}
use Rattle.plan.specs.Questions.{floor_loaded}
use Rattle.levels.specs.Code.{loaded}
use Rattle.state.proofs.tables.TableLaws.{table_stored}
use Rattle.levels.proofs.Tables.{levels_are, speed_is, speed_positive, speed_most}
use Rattle.plan.proofs.Held.{count_is}
use Rattle.starting.proofs.StartLaws.{left_short, Planned, planned, level_below, Newly, newly, new_size, new_periods, new_ready, new_left_lem}
use Rattle.starting.proofs.started.Goals.{After-fresh-image, Start}
use Rattle.starting.proofs.started.Goals as goal

-- the table's speeds
abbrev table : Start → List ℕ
table c = loaded c.args.table.now.speeds c.args.table.now.levels

size : (c : Start) → length c.args.p.tasks ≡ 16
size c = search (length_mapped, rules)

accepted : (c : Start) → Planned (table c) c.args.p c.args.highest
accepted c = planned (table c) c.args.p c.args.highest (size c) c.requires.p_value c.requires.highest_value

-- the nominal level is one of the table's
below : (c : Start) → c.args.highest < c.args.table.now.levels
below c = omega (arith, level_below (accepted c), levels_are c.args.table.now.known)

-- the new image
new : (c : After-fresh-image) → Newly (loaded c.args.table.now.speeds c.args.table.now.levels) (tasks_of c.args.p) c.fresh-image.result
new c =
    let size : length c.args.p.tasks ≡ 16 = search (length_mapped, rules) in
    let accepted : Planned (loaded c.args.table.now.speeds c.args.table.now.levels) c.args.p c.args.highest =
    planned (loaded c.args.table.now.speeds c.args.table.now.levels) c.args.p c.args.highest size c.requires.p_value c.requires.highest_value in
    newly c.args.table.now.known.rising (table_stored c.args.table.now.known) accepted
    (speed_is c.args.table.now.known c.args.highest (omega (arith, level_below accepted, levels_are c.args.table.now.known)))
    c.fresh-image.ensures

pub returns-then-state-lt-STATE_LENGTH : goal.returns-then-state-lt-STATE_LENGTH
returns-then-state-lt-STATE_LENGTH c =
    let all = left_short (table (goal.at.returns-then-state-lt-STATE_LENGTH c).Start) (tasks_of c.args.p) c.args.state.now (omega arith) in record {
      value = all.0;
      state_after = all.1;
    }

pub offset_bounds-table-highest : goal.offset_bounds-table-highest
offset_bounds-table-highest c = omega (arith, below (goal.at.offset_bounds-table-highest c).Start, c.args.table.now.known.few)

pub bounds-table-highest : goal.bounds-table-highest
bounds-table-highest c = omega (arith, below (goal.at.bounds-table-highest c).Start, c.args.table.now.known.few)

pub fresh-image-requires : goal.fresh-image-requires
fresh-image-requires c =
    let k = accepted (goal.at.fresh-image-requires c).Start in record {
      levels_bound = (c.args.table.now.known.few, c.requires.padded);
      count_le_places = (
        k.plan.held.most,
        k.plan.ranges,
        subst (λ (n : ℕ). every (floor_loaded n) (tasks_of c.args.p) ≡ true) (levels_are c.args.table.now.known) k.good.tasks.floors,
      );
      speed_nonzero = (speed_positive c.args.table.now.known c.args.highest (below (goal.at.fresh-image-requires c).Start), speed_most c.args.table.now.known c.args.highest (below (goal.at.fresh-image-requires c).Start));
    }

pub keys_of-keys-requires : goal.keys_of-keys-requires
keys_of-keys-requires c =
    let k = accepted (goal.at.keys_of-keys-requires c).Start in record {
      count_le_places = (k.plan.held.most, new_size (new (goal.at.keys_of-keys-requires c).After-fresh-image), omega arith);
      by_index = λ i h. new_periods (new (goal.at.keys_of-keys-requires c).After-fresh-image) i (omega (arith, count_is k.plan.held));
    }

pub choose-order-requires : goal.choose-order-requires
choose-order-requires c =
    let k = new (goal.at.choose-order-requires c).After-fresh-image in
    let r = new_ready k (sym (count_is (accepted (goal.at.choose-order-requires c).Start).plan.held)) c.keys_of-keys.ensures c.args.highest c.requires.highest_value in record {
      holds = (r.0.0, r.0.1, r.0.2);
      enough = r.1.0;
      keyed = r.1.1;
    }

pub returns : goal.returns
returns c =
    let all = new_left_lem (new (goal.at.returns c).After-fresh-image) c.args.state.now {r = Ok c.choose-order.result} (omega arith) c.choose-order.ensures.value c.choose-order.ensures.block_after c.store.ensures in record {
      value = all.0;
      state_after = all.1;
    }
