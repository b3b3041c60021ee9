use mathlib.Core.Bool.{true}
use mathlib.Core.Path.{◌≡◌, refl, ap, ◌∙◌}
use lib.ListN.{get_or}
use Rattle.levels.specs.Code.{loaded}
use Rattle.reclaiming.specs.StateBlock.{decode}
use Rattle.reclaiming.specs.Orders.{next_arrival}
use Rattle.state.specs.Code.{timing_in}
use Rattle.soundness.specs.SoundEntries.{entries_by}
use Rattle.soundness.proofs.SoundLaws.{Admitted, Entered, admitted_speed, admitted_floors, admitted_periods, admitted_keyed, admitted_next, admitted_arrival}
use Rattle.soundness.proofs.SoundLaws.{admitted_entries, admitted_order, admitted_runnable, behind_runs, admitted_pace, admitted_sound}
use Rattle.soundness.proofs.test_admitted.Goals.{After-next_arrival-next, Joined-entries_sound, in-Behind, in-Ahead, Start}
use Rattle.soundness.proofs.test_admitted.Goals as goal

-- the plan is admitted, and past the first test its entries are sound
known : (c : Start) →
    Admitted c.args.table.now.speeds c.args.table.now.levels c.args.block.now c.args.count c.args.clock c.args.level (get_or c.args.table.now.speeds c.args.level 0)
known c = record {
  table = c.args.table.now.known;
  holds = c.requires.holds.0;
  same = c.requires.holds.1;
  some = c.requires.holds.2;
  clock_is = c.requires.clock_value.0;
  in_range = c.requires.clock_value.1;
  yes_all = c.requires.block_value.0;
  level_is = c.requires.block_value.1;
  speed_read = refl;
}

entered : (c : Joined-entries_sound) →
    Admitted c.args.table.now.speeds c.args.table.now.levels c.args.block.now c.args.count c.args.clock c.args.level (get_or c.args.table.now.speeds c.args.level 0) →
    Entered c.args.table.now.speeds c.args.table.now.levels c.args.block.now c.args.count c.args.clock c.args.level (get_or c.args.table.now.speeds c.args.level 0)
    c.match-entries_sound.ahead
entered c k = record {
  admitted = k;
  tests = elim c.match-entries_sound.branch [
    | in-Behind w ↦ ap (entries_by true) w.ahead-is ∙ w.in-Behind.ensures
    | in-Ahead w ↦ ap (entries_by true) w.ahead-is ∙ w.in-Ahead.ensures
  ];
}

-- the next arrival that was told
arrival : (c : After-next_arrival-next) →
    Admitted c.args.table.now.speeds c.args.table.now.levels c.args.block.now c.args.count c.args.clock c.args.level (get_or c.args.table.now.speeds c.args.level 0) →
    c.next_arrival-next.result ≡ next_arrival (timing_in (loaded c.args.table.now.speeds c.args.table.now.levels) c.args.block.now) (decode c.args.block.now).clock
arrival c k = admitted_arrival k c.keys_of-keys.ensures c.next_arrival-next.result c.next_arrival-next.ensures

pub entries_sound-requires : goal.entries_sound-requires
entries_sound-requires c =
    let k = known (goal.at.entries_sound-requires c).Start in
    (k.holds, k.same, (admitted_speed k).0, (admitted_speed k).1)

pub returns-in-NotSound : goal.returns-in-NotSound
returns-in-NotSound c = admitted_entries (known (goal.at.returns-in-NotSound c).Start) c.in-NotSound.ensures

pub keys_of-keys-requires-clause-by_index : goal.keys_of-keys-requires-clause-by_index
keys_of-keys-requires-clause-by_index c = admitted_periods (known (goal.at.keys_of-keys-requires-clause-by_index c).Start)

pub next_arrival-next-requires-clause-by_index : goal.next_arrival-next-requires-clause-by_index
next_arrival-next-requires-clause-by_index c =
    (admitted_next (known (goal.at.next_arrival-next-requires-clause-by_index c).Start) c.keys_of-keys.ensures).1

pub order_sound-requires-clause-keyed : goal.order_sound-requires-clause-keyed
order_sound-requires-clause-keyed c = admitted_keyed (known (goal.at.order_sound-requires-clause-keyed c).Start) c.keys_of-keys.ensures

pub order_sound-requires-clause-next_value : goal.order_sound-requires-clause-next_value
order_sound-requires-clause-next_value c =
    let at = goal.at.order_sound-requires-clause-next_value c in
    arrival at.After-next_arrival-next (known at.Start)

pub order_sound-requires-clause-by_index : goal.order_sound-requires-clause-by_index
order_sound-requires-clause-by_index c = admitted_floors (known (goal.at.order_sound-requires-clause-by_index c).Start)

pub returns-then-not-order_sound : goal.returns-then-not-order_sound
returns-then-not-order_sound c =
    let at = goal.at.returns-then-not-order_sound c in
    admitted_order (entered at.Joined-entries_sound (known at.Start)) c.order_sound.ensures c.if-not-order_sound.true

pub keeps_up-requires-clause-runnable : goal.keeps_up-requires-clause-runnable
keeps_up-requires-clause-runnable c =
    let at = goal.at.keeps_up-requires-clause-runnable c in
    let k = entered at.Joined-entries_sound (known at.Start) in
    (admitted_runnable k c.order_sound.ensures c.if-not-order_sound.false, behind_runs k c.order_sound.ensures c.if-not-order_sound.false)

pub keeps_up-requires-clause-next_value : goal.keeps_up-requires-clause-next_value
keeps_up-requires-clause-next_value c =
    let at = goal.at.keeps_up-requires-clause-next_value c in
    arrival at.After-next_arrival-next (known at.Start)

pub returns-then-not-keeps_up : goal.returns-then-not-keeps_up
returns-then-not-keeps_up c =
    let at = goal.at.returns-then-not-keeps_up c in
    let k = entered at.Joined-entries_sound (known at.Start) in
    admitted_pace k c.order_sound.ensures c.if-not-order_sound.false c.keeps_up.ensures c.if-not-keeps_up.true

pub returns : goal.returns
returns c =
    let at = goal.at.returns c in
    let k = entered at.Joined-entries_sound (known at.Start) in
    admitted_sound k c.order_sound.ensures c.if-not-order_sound.false c.keeps_up.ensures c.if-not-keeps_up.false c.keys_of-keys.ensures
    (arrival at.After-next_arrival-next k.admitted)
