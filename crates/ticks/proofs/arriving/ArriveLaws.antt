-- The new jobs of the tasks whose deadline is the clock, in a state's bytes.
-- Assumes nothing.
use Prim.Native.Nat.{ℕ, ◌+◌, ◌<◌, ◌≤◌}
use mathlib.Core.Path.{◌≡◌, sym, ap, ap₂, subst, ◌∙◌}
use mathlib.Core.Bool.{Bool, true, false}
use mathlib.Core.List.{List}
use native.Mathlib.Decide.{dec_le, ℕ_discrete}
use native.Mathlib.Omega.{arith}
use borrow.Author.Tests.{lt-ltb, le-ltb, eq-eqb, ne_eqb}
use lib.Dec.{ltb}
use lib.ListN.{length, get_or}
use Rattle.arith.specs.Choice.{pick}
use Rattle.plan.specs.declared.Task.{Task}
use Rattle.plan.specs.declared.Rest.{Rest}
use Rattle.plan.specs.Times.{whole, task_time}
use Rattle.reclaiming.specs.StateBlock.{State, no_entry, remaining_of, rest_of, task_of, encode, remaining_field, state_length, places}
use Rattle.state.specs.Code.{entry_in, changed, with_jobs, entry_stored, rest_stored, FitTask}
use Rattle.urgency.specs.Code.{deadline_in, due_at}
use Rattle.ticks.specs.Arriving.{renewed_bytes, arrived_state}
use Rattle.state.proofs.BlockLaws.{changed_there, changed_else, encode_task, jobs_count, jobs_task, jobs_same, jobs_eq, store_rest, store_remaining}
use Rattle.state.proofs.BlockLaws.{length-entry_stored, length-rest_stored}

-- what is read and stored of a new job: what is left of it, then the plain ticks
pub record Renewed (b o m : List ℕ) (i speed : ℕ) (t : Task) (rest : Rest) (time : ℕ) : Type 0 where
  pub task_is : t ≡ task_of (entry_in b i)
  pub rest_is : rest ≡ whole t
  pub rest_in : o ≡ rest_stored b i rest
  pub time_is : time ≡ task_time speed t
  pub ticks_in : m ≡ entry_stored o remaining_field i time

pub renew_stored : {b o m : List ℕ} {i speed : ℕ} {t : Task} {rest : Rest} {time : ℕ} → Renewed b o m i speed t rest time → m ≡ renewed_bytes b i speed
renew_stored {b} {i = i} {speed} k =
    k.ticks_in
    ∙ ap₂ (λ (l : List ℕ) (x : ℕ). entry_stored l remaining_field i x)
    (k.rest_in ∙ ap (rest_stored b i) (k.rest_is ∙ ap whole k.task_is))
    (k.time_is ∙ ap (task_time speed) k.task_is)

-- a function whose values below n are another's
abbrev up_to {ℓ} : {A : Type ℓ} → (ℕ → A) → (ℕ → A) → ℕ → ℕ → A
up_to new old n j = pick (ltb j n) (new j) (old j)

module _ {ℓ} {A : Type ℓ} (new old : ℕ → A) where
  up_to_below : (n j : ℕ) → j < n → up_to new old n j ≡ new j
  up_to_below n j h = ap (λ (t : Bool). pick t (new j) (old j)) (lt-ltb j n h)

  up_to_past : (n j : ℕ) → n ≤ j → up_to new old n j ≡ old j
  up_to_past n j h = ap (λ (t : Bool). pick t (new j) (old j)) (le-ltb j n h)

  up_to_more : (n j : ℕ) → (j ≡ n → ⊥) → up_to new old n j ≡ up_to new old (n + 1) j
  up_to_more n j q =
      elim (dec_le n j) [
        | yes h ↦ up_to_past n j h ∙ sym (up_to_past (n + 1) j (omega arith))
        | no h ↦ up_to_below n j (omega arith) ∙ sym (up_to_below (n + 1) j (omega arith))
      ]

  -- one place more, changed or the same
  up_to_changed : (n : ℕ) (x : A) → x ≡ new n → (j : ℕ) → changed (up_to new old n) n x j ≡ up_to new old (n + 1) j
  up_to_changed n x e j =
      elim (ℕ_discrete j n) [
        | yes q ↦ changed_there (up_to new old n) n x j q ∙ e ∙ ap new (sym q) ∙ sym (up_to_below (n + 1) j (omega arith))
        | no q ↦ changed_else (up_to new old n) n x j q ∙ up_to_more n j q
      ]

  up_to_same : (n : ℕ) → new n ≡ old n → (j : ℕ) → up_to new old n j ≡ up_to new old (n + 1) j
  up_to_same n e j =
      elim (ℕ_discrete j n) [
        | yes q ↦
            up_to_past n j (omega arith)
            ∙ ap old q
            ∙ sym e
            ∙ ap new (sym q)
            ∙ sym (up_to_below (n + 1) j (omega arith))
        | no q ↦ up_to_more n j q
      ]

-- storing a new job leaves the length
length_renewed : (b : List ℕ) (i speed : ℕ) → length (renewed_bytes b i speed) ≡ length b
length_renewed b i speed =
    let t : Task = task_of (entry_in b i) in
    length-entry_stored (rest_stored b i (whole t)) remaining_field i (task_time speed t) ∙ length-rest_stored b i (whole t)

-- m is what the arrivals at a clock make of a state in b
abbrev pub Arrives : List ℕ → ℕ → ℕ → ℕ → List ℕ → List ℕ → Type 0
Arrives keys count clock speed b m =
    (s : State) →
    b ≡ encode s →
    length s.entries ≡ count →
    ((i : ℕ) → i < count → FitTask (task_of (get_or s.entries i no_entry))) →
    m ≡ encode (arrived_state keys clock speed s)

-- what is left of the jobs, and the ticks left, where tasks whose deadline is the clock have new jobs
abbrev new_rest : List ℕ → ℕ → State → ℕ → Rest
new_rest keys clock s i = pick (due_at keys clock i) (whole (task_of (get_or s.entries i no_entry))) (rest_of s i)

abbrev new_left : List ℕ → ℕ → ℕ → State → ℕ → ℕ
new_left keys clock speed s i = pick (due_at keys clock i) (task_time speed (task_of (get_or s.entries i no_entry))) (remaining_of s i)

-- and where the tasks below i have had their turn
abbrev rest_to : List ℕ → ℕ → State → ℕ → ℕ → Rest
rest_to keys clock s = up_to (new_rest keys clock s) (rest_of s)

abbrev left_to : List ℕ → ℕ → ℕ → State → ℕ → ℕ → ℕ
left_to keys clock speed s = up_to (new_left keys clock speed s) (remaining_of s)

-- the bytes on the way to that
pub record Arriving (keys : List ℕ) (count clock speed : ℕ) (b m : List ℕ) (i : ℕ) : Type 0 where
  pub size : length m ≡ state_length
  pub few : count ≤ places
  pub below : i ≤ count
  pub so_far :
      (s : State) →
      b ≡ encode s →
      length s.entries ≡ count →
      ((i : ℕ) → i < count → FitTask (task_of (get_or s.entries i no_entry))) →
      m ≡ encode (with_jobs s (rest_to keys clock s i) (left_to keys clock speed s i))

pub arrive_none : {keys : List ℕ} {count clock speed : ℕ} {b : List ℕ} → length b ≡ state_length → count ≤ places → Arriving keys count clock speed b b 0
arrive_none {keys} {count} {clock} {speed} h few = record {
  size = h;
  few = few;
  below = omega arith;
  so_far = λ s e n r.
      e
      ∙ ap encode
      (sym (jobs_same s)
      ∙ jobs_eq s (rest_of s) (rest_to keys clock s 0) (remaining_of s) (left_to keys clock speed s 0)
      (λ j k. sym (up_to_past (new_rest keys clock s) (rest_of s) 0 j (omega arith)))
      (λ j k. sym (up_to_past (new_left keys clock speed s) (remaining_of s) 0 j (omega arith))));
}

module _ {keys : List ℕ} {count clock speed : ℕ} {b m : List ℕ} {i : ℕ} (now : Arriving keys count clock speed b m i) where
  pub arrive_all : count ≤ i → Arrives keys count clock speed b m
  arrive_all h s e n r =
      now.so_far s e n r
      ∙ ap encode
      (jobs_eq s (rest_to keys clock s i) (new_rest keys clock s) (left_to keys clock speed s i) (new_left keys clock speed s)
      (λ j k. up_to_below (new_rest keys clock s) (rest_of s) i j (omega arith))
      (λ j k. up_to_below (new_left keys clock speed s) (remaining_of s) i j (omega arith)))

  module _ (h : i < count) where
    -- task i has no new job
    pub arrive_old : (deadline_in (get_or keys i 0) ≡ clock → ⊥) → {o : List ℕ} → o ≡ m → Arriving keys count clock speed b o (i + 1)
    arrive_old q g =
        let f : due_at keys clock i ≡ false = ne_eqb (deadline_in (get_or keys i 0)) clock q in
        record {
          size = ap length g ∙ now.size;
          few = now.few;
          below = omega arith;
          so_far = λ s e n r.
              let t : Task = task_of (get_or s.entries i no_entry) in
              g
              ∙ now.so_far s e n r
              ∙ ap encode
              (jobs_eq s (rest_to keys clock s i) (rest_to keys clock s (i + 1)) (left_to keys clock speed s i) (left_to keys clock speed s (i + 1))
              (λ j k. up_to_same (new_rest keys clock s) (rest_of s) i (ap (λ (y : Bool). pick y (whole t) (rest_of s i)) f) j)
              (λ j k. up_to_same (new_left keys clock speed s) (remaining_of s) i (ap (λ (y : Bool). pick y (task_time speed t) (remaining_of s i)) f) j));
        }

    -- task i has a new job
    pub arrive_new : deadline_in (get_or keys i 0) ≡ clock → {o : List ℕ} → o ≡ renewed_bytes m i speed → Arriving keys count clock speed b o (i + 1)
    arrive_new q g =
        let f : due_at keys clock i ≡ true = eq-eqb (deadline_in (get_or keys i 0)) clock q in
        record {
          size = ap length g ∙ length_renewed m i speed ∙ now.size;
          few = now.few;
          below = omega arith;
          so_far = λ s e n r.
              let left : ℕ → Rest = rest_to keys clock s i in
              let ticks : ℕ → ℕ = left_to keys clock speed s i in
              let t : Task = task_of (get_or s.entries i no_entry) in
              let z : length (with_jobs s left ticks).entries ≡ count = jobs_count s left ticks ∙ n in
              let same : task_of (get_or (with_jobs s left ticks).entries i no_entry) ≡ t = jobs_task s left ticks i (omega arith) in
              let u : task_of (entry_in m i) ≡ t =
              ap (λ (l : List ℕ). task_of (entry_in l i)) (now.so_far s e n r)
              ∙ encode_task (with_jobs s left ticks) i (omega arith) (subst FitTask (sym same) (r i h))
              ∙ same in
              g
              ∙ ap₂ (λ (l : List ℕ) (x : Task). entry_stored (rest_stored l i (whole x)) remaining_field i (task_time speed x)) (now.so_far s e n r) u
              ∙ ap (λ (l : List ℕ). entry_stored l remaining_field i (task_time speed t)) (store_rest s left ticks i (omega arith) (whole t))
              ∙ store_remaining s (changed left i (whole t)) ticks i (omega arith) (task_time speed t)
              ∙ ap encode
              (jobs_eq s (changed left i (whole t)) (rest_to keys clock s (i + 1)) (changed ticks i (task_time speed t)) (left_to keys clock speed s (i + 1))
              (λ j k. up_to_changed (new_rest keys clock s) (rest_of s) i (whole t) (ap (λ (y : Bool). pick y (whole t) (rest_of s i)) (sym f)) j)
              (λ j k.
              up_to_changed (new_left keys clock speed s) (remaining_of s) i (task_time speed t)
              (ap (λ (y : Bool). pick y (task_time speed t) (remaining_of s i)) (sym f)) j));
        }

-- where no deadline is the clock, nothing arrives
pub arrives_not :
    (keys : List ℕ) (count clock speed : ℕ) → ((i : ℕ) → i < count → due_at keys clock i ≡ false) → (b : List ℕ) → Arrives keys count clock speed b b
arrives_not keys count clock speed none b s e n r =
    e
    ∙ ap encode
    (sym (jobs_same s)
    ∙ jobs_eq s (rest_of s) (new_rest keys clock s) (remaining_of s) (new_left keys clock speed s)
    (λ i h. ap (λ (t : Bool). pick t (whole (task_of (get_or s.entries i no_entry))) (rest_of s i)) (sym (none i (omega arith))))
    (λ i h. ap (λ (t : Bool). pick t (task_time speed (task_of (get_or s.entries i no_entry))) (remaining_of s i)) (sym (none i (omega arith)))))
