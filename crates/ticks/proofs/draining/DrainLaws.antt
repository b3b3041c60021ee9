-- Ticks taken from the entries in their bytes: from one entry, and from all, the most urgent first.
-- Assumes nothing.
use Prim.Native.Nat.{ℕ, zero, suc, ◌+◌, ◌-◌, ◌%◌, ◌<◌, ◌≤◌, min}
use mathlib.Core.Path.{◌≡◌, refl, sym, ap, ap₂, subst, ◌∙◌}
use mathlib.Core.List.{List}
use native.Mathlib.Nat.{not-suc-le-zero}
use native.Mathlib.Decide.{dec_le, ℕ_discrete}
use native.Mathlib.Omega.{arith}
use borrow.Author.Tests.{lt-ltb, le-ltb}
use mathlib.Core.Bool.{Bool}
use lib.Dec.{ltb}
use lib.ListN.{length, get_or}
use Rattle.arith.specs.Choice.{pick}
use Rattle.arith.specs.Sum.{sum_to}
use Rattle.arith.proofs.Tests.{eq_yes, eq_not, test_eq}
use Rattle.arith.proofs.Sums.{sum_to_eq}
use Rattle.reclaiming.specs.StateBlock.{State, remaining_of, rest_of, encode, remaining_field, state_length}
use Rattle.state.specs.Code.{entry_in, changed, with_jobs, entry_stored, number_in}
use Rattle.urgency.specs.Code.{no_key, least_key, drained_by}
use Rattle.state.proofs.BlockLaws.{changed_there, changed_else, field_remaining, encode_remaining, jobs_count, jobs_remaining, jobs_same, jobs_eq, store_remaining, length-entry_stored}

-- the ticks that entry i has left, as they are read, and the ticks that are asked of it
pub record Asked (b : List ℕ) (i ticks left : ℕ) : Type 0 where
  pub is : left ≡ (entry_in b i).remaining

-- what is taken of it, and the bytes with what it keeps
abbrev Took : List ℕ → ℕ → ℕ → List ℕ → ℕ → Type 0
Took b i ticks m r =
    (r ≡ min ticks (entry_in b i).remaining) × (m ≡ entry_stored b remaining_field i ((entry_in b i).remaining - ticks))

-- it has more than is asked for, or it has not
module _ {b : List ℕ} {i ticks left : ℕ} (k : Asked b i ticks left) where
  pub took_some : ticks < left → {m : List ℕ} → m ≡ entry_stored b remaining_field i (left - ticks) → Took b i ticks m ticks
  took_some h e = (omega arith, e ∙ ap (λ (x : ℕ). entry_stored b remaining_field i (x - ticks)) k.is)

  pub took_all : left ≤ ticks → {m : List ℕ} → m ≡ entry_stored b remaining_field i 0 → Took b i ticks m left
  took_all h e =
      let z : 0 ≡ (entry_in b i).remaining - ticks = omega arith in
      (omega arith, e ∙ ap (λ (x : ℕ). entry_stored b remaining_field i x) z)

-- a sum in which one term is smaller
sum_to_less :
    (n : ℕ) (f g : ℕ → ℕ) (k x : ℕ) →
    k < n →
    g k + x ≡ f k →
    ((i : ℕ) → i < n → (i ≡ k → ⊥) → g i ≡ f i) →
    sum_to n g + x ≡ sum_to n f
sum_to_less zero f g k x h e o = absurd (not-suc-le-zero h)
sum_to_less (suc n) f g k x h e o =
    elim (ℕ_discrete k n) [
      | yes q ↦ omega (arith, sum_to_eq n g f (λ i j. o i (omega arith) (λ z. omega arith)), subst (λ (z : ℕ). g z + x ≡ f z) q e)
      | no q ↦ omega (arith, sum_to_less n f g k x (omega arith) e (λ i j r. o i (omega arith) r), o n (omega arith) (λ z. q (sym z)))
    ]

-- a sum of nothing
sum_to_none : (n : ℕ) (f : ℕ → ℕ) → ((i : ℕ) → i < n → f i ≡ 0) → sum_to n f ≡ 0
sum_to_none zero f h = refl
sum_to_none (suc n) f h = omega (arith, sum_to_none n f (λ i k. h i (omega arith)), h n (omega arith))

-- a task with a key that has something left
record Found (keys : List ℕ) (left : ℕ → ℕ) (n key : ℕ) : Type 0 where
  place : ℕ
  below : place < n
  is : get_or keys place 0 ≡ key
  some : 0 < left place

-- the least key: at most `no_key`; every task with a smaller one has nothing left; below `no_key` it is the key of one that has
module _ (keys : List ℕ) (left : ℕ → ℕ) where
  least_most : (n : ℕ) → least_key keys left n ≤ no_key
  least_most zero = omega arith
  least_most (suc n) =
      elim (test_eq (left n) 0) as (λ t _. pick t (least_key keys left n) (min (least_key keys left n) (get_or keys n 0)) ≤ no_key) [
        | eq_yes z ↦ least_most n
        | eq_not z ↦ omega (arith, least_most n)
      ]

  least_before : (n i : ℕ) → i < n → get_or keys i 0 < least_key keys left n → left i ≡ 0
  least_before zero i h = absurd (not-suc-le-zero h)
  least_before (suc n) i h =
      elim (test_eq (left n) 0)
      as (λ t _. get_or keys i 0 < pick t (least_key keys left n) (min (least_key keys left n) (get_or keys n 0)) → left i ≡ 0) [
        | eq_yes z ↦ λ l. elim (ℕ_discrete i n) [ yes e ↦ ap left e ∙ z | no q ↦ least_before n i (omega arith) l ]
        | eq_not z ↦ λ l. elim (ℕ_discrete i n) [
          | yes e ↦ absurd (omega (arith, ap (λ (k : ℕ). get_or keys k 0) e))
          | no q ↦ least_before n i (omega arith) (omega arith)
        ]
      ]

  least_found : (n : ℕ) → least_key keys left n < no_key → Found keys left n (least_key keys left n)
  least_found zero = λ h. absurd (omega arith)
  least_found (suc n) =
      elim (test_eq (left n) 0)
      as (λ t _. pick t (least_key keys left n) (min (least_key keys left n) (get_or keys n 0)) < no_key →
      Found keys left (suc n) (pick t (least_key keys left n) (min (least_key keys left n) (get_or keys n 0)))) [
        | eq_yes z ↦ λ h.
            let r : Found keys left n (least_key keys left n) = least_found n h in
            record { place = r.place; below = omega arith; is = r.is; some = r.some }
        | eq_not z ↦ λ h. elim (dec_le (get_or keys n 0) (least_key keys left n)) [
          | yes g ↦ record { place = n; below = omega arith; is = omega arith; some = omega arith }
          | no g ↦
              let r : Found keys left n (least_key keys left n) = least_found n (omega arith) in
              record { place = r.place; below = omega arith; is = omega (arith, r.is); some = r.some }
        ]
      ]

-- m is what d ticks leave of a state in b
abbrev pub Drains : List ℕ → ℕ → ℕ → List ℕ → List ℕ → Type 0
Drains keys count d b m =
    (s : State) →
    b ≡ encode s →
    length s.entries ≡ count →
    ((i : ℕ) → i < count → remaining_of s i ≤ 65535) →
    m ≡ encode (with_jobs s (rest_of s) (drained_by keys (remaining_of s) count d))

-- a state's bytes on the way, t ticks still to be taken of d: what they will leave is what d leave of the state
pub record Drained (s : State) (keys : List ℕ) (count d : ℕ) (m : List ℕ) (t : ℕ) : Type 0 where
  pub left : ℕ → ℕ
  pub bytes : m ≡ encode (with_jobs s (rest_of s) left)
  pub less : (i : ℕ) → i < count → left i ≤ remaining_of s i
  pub same : (i : ℕ) → i < count → drained_by keys left count t i ≡ drained_by keys (remaining_of s) count d i

-- keys from which the task is read, each below `no_key`
abbrev Telling : List ℕ → ℕ → Type 0
Telling keys count = (i : ℕ) → i < count → (get_or keys i 0 % 16 ≡ i) × (get_or keys i 0 < no_key)

-- the bytes on the way, whatever state they began with
pub record Draining (keys : List ℕ) (count d : ℕ) (b m : List ℕ) (t : ℕ) : Type 0 where
  pub size : length m ≡ state_length
  pub tell : Telling keys count
  pub so_far :
      (s : State) →
      b ≡ encode s →
      length s.entries ≡ count →
      ((i : ℕ) → i < count → remaining_of s i ≤ 65535) →
      Drained s keys count d m t

pub drain_none : {keys : List ℕ} {count : ℕ} (d : ℕ) {b : List ℕ} → length b ≡ state_length → Telling keys count → Draining keys count d b b d
drain_none d h tell = record {
  size = h;
  tell = tell;
  so_far = λ s e n r. record {
    left = remaining_of s;
    bytes = e ∙ ap encode (sym (jobs_same s));
    less = λ i k. omega arith;
    same = λ i k. refl;
  };
}

-- one turn in numbers, of the u + x ticks that were left: for the task from which x are taken, for a less urgent one, and for one with none
turn_mine : (l r u x t a b : ℕ) → u + x ≡ t → r + x ≡ l → a ≡ 0 → b ≡ 0 → r - (u - a) ≡ l - (t - b)
turn_mine l r u x t a b e f g h = omega arith

turn_later : (l r u x t a b : ℕ) → u + x ≡ t → r ≡ l → a + x ≡ b → r - (u - a) ≡ l - (t - b)
turn_later l r u x t a b e f g = omega arith

turn_none : (l r u v : ℕ) → r ≡ l → l ≡ 0 → r - u ≡ l - v
turn_none l r u v e f = omega arith

-- what is left when t ticks are asked of task f, and what the tasks more urgent than task i have
abbrev rest : (ℕ → ℕ) → ℕ → ℕ → ℕ → ℕ
rest left f t = changed left f (left f - t)

module _ (keys : List ℕ) (g : ℕ → ℕ) (i : ℕ) where
  abbrev ahead : ℕ → ℕ
  ahead j = pick (ltb (get_or keys j 0) (get_or keys i 0)) (g j) 0

  ahead_yes : (j : ℕ) → get_or keys j 0 < get_or keys i 0 → ahead j ≡ g j
  ahead_yes j l = ap (λ (b : Bool). pick {A = ℕ} b (g j) 0) (lt-ltb (get_or keys j 0) (get_or keys i 0) l)

  ahead_not : (j : ℕ) → get_or keys i 0 ≤ get_or keys j 0 → ahead j ≡ 0
  ahead_not j l = ap (λ (b : Bool). pick {A = ℕ} b (g j) 0) (le-ltb (get_or keys j 0) (get_or keys i 0) l)

-- task f has the turn: it is the most urgent that has something left, and x of t ticks are taken of it
record First (keys : List ℕ) (count : ℕ) (left : ℕ → ℕ) (f t x : ℕ) : Type 0 where
  tell : Telling keys count
  below : f < count
  ahead_empty : (i : ℕ) → i < count → get_or keys i 0 < get_or keys f 0 → left i ≡ 0
  taken : x ≡ min t (left f)

-- what the ticks leave is the same, before its turn and after
module _ {keys : List ℕ} {count : ℕ} {left : ℕ → ℕ} {f t x : ℕ} (k : First keys count left f t x) where
  rest_less : (i : ℕ) → rest left f t i ≤ left i
  rest_less i =
      elim (ℕ_discrete i f) [
        | yes q ↦ omega (arith, changed_there left f (left f - t) i q, ap left q)
        | no q ↦ omega (arith, changed_else left f (left f - t) i q)
      ]

  -- those more urgent than the first have nothing
  none_ahead : (g : ℕ → ℕ) → ((i : ℕ) → g i ≤ left i) → sum_to count (ahead keys g f) ≡ 0
  none_ahead g l =
      sum_to_none count (ahead keys g f)
      (λ j h. elim (dec_le (get_or keys f 0) (get_or keys j 0)) [
        | yes q ↦ ahead_not keys g f j q
        | no q ↦ omega (arith, ahead_yes keys g f j (omega arith), k.ahead_empty j h (omega arith), l j)
      ])

  -- for those less urgent, what is ahead falls by what is taken
  less_ahead : (i : ℕ) → get_or keys f 0 < get_or keys i 0 → sum_to count (ahead keys (rest left f t) i) + x ≡ sum_to count (ahead keys left i)
  less_ahead i l =
      sum_to_less count (ahead keys left i) (ahead keys (rest left f t) i) f x k.below
      (omega (arith, ahead_yes keys (rest left f t) i f l, ahead_yes keys left i f l, changed_there left f (left f - t) f refl, k.taken))
      (λ j h q. ap (λ (y : ℕ). pick {A = ℕ} (ltb (get_or keys j 0) (get_or keys i 0)) y 0) (changed_else left f (left f - t) j q))

  turn_ticks : t - x + x ≡ t
  turn_ticks = omega arith

  turn_left : rest left f t f + x ≡ left f
  turn_left = omega (arith, changed_there left f (left f - t) f refl, k.taken)

  drained_step : (i : ℕ) → i < count → drained_by keys (rest left f t) count (t - x) i ≡ drained_by keys left count t i
  drained_step i h =
      elim (ℕ_discrete i f) [
        | yes q ↦
            subst (λ (z : ℕ). drained_by keys (rest left f t) count (t - x) z ≡ drained_by keys left count t z) (sym q)
            (turn_mine (left f) (rest left f t f) (t - x) x t (sum_to count (ahead keys (rest left f t) f)) (sum_to count (ahead keys left f))
            turn_ticks
            turn_left
            (none_ahead (rest left f t) rest_less)
            (none_ahead left (λ j. omega arith)))
        | no q ↦
            elim (dec_le (get_or keys i 0) (get_or keys f 0)) [
              | yes l ↦
                  let ne : get_or keys i 0 ≡ get_or keys f 0 → ⊥ =
                  (λ z. q (sym (k.tell i h).0 ∙ ap (λ (y : ℕ). y % 16) z ∙ (k.tell f k.below).0)) in
                  turn_none (left i) (rest left f t i) (t - x - sum_to count (ahead keys (rest left f t) i)) (t - sum_to count (ahead keys left i))
                  (changed_else left f (left f - t) i q)
                  (k.ahead_empty i h (omega arith))
              | no l ↦
                  turn_later (left i) (rest left f t i) (t - x) x t (sum_to count (ahead keys (rest left f t) i)) (sum_to count (ahead keys left i))
                  turn_ticks
                  (changed_else left f (left f - t) i q)
                  (less_ahead i (omega arith))
            ]
      ]

-- the two ends: no ticks are left, or no task has any left
module _ {keys : List ℕ} {count d : ℕ} {b m : List ℕ} {t : ℕ} (now : Draining keys count d b m t) where
  module _ (s : State) (e : b ≡ encode s) (n : length s.entries ≡ count) (r : (i : ℕ) → i < count → remaining_of s i ≤ 65535) where
    abbrev on : Drained s keys count d m t
    on = now.so_far s e n r

    left_is : (i : ℕ) → i < count → (entry_in m i).remaining ≡ on.left i
    left_is i h =
        let z : length (with_jobs s (rest_of s) on.left).entries ≡ count = jobs_count s (rest_of s) on.left ∙ n in
        let v : remaining_of (with_jobs s (rest_of s) on.left) i ≡ on.left i = jobs_remaining s (rest_of s) on.left i (omega arith) in
        ap (λ (l : List ℕ). (entry_in l i).remaining) on.bytes
        ∙ encode_remaining (with_jobs s (rest_of s) on.left) i (omega arith) (omega (arith, on.less i h, r i h))
        ∙ v

    -- the end has come where each task keeps what it has
    drain_end :
        ((i : ℕ) → i < count → drained_by keys on.left count t i ≡ on.left i) →
        m ≡ encode (with_jobs s (rest_of s) (drained_by keys (remaining_of s) count d))
    drain_end keeps =
        on.bytes
        ∙ ap encode
        (jobs_eq s (rest_of s) (rest_of s) on.left (drained_by keys (remaining_of s) count d)
        (λ i k. refl)
        (λ i k. omega (arith, keeps i (omega arith), on.same i (omega arith))))

  pub drain_all : t ≤ 0 → Drains keys count d b m
  drain_all h s e n r = drain_end s e n r (λ i k. omega arith)

  pub drain_out : {first : ℕ} → first ≡ least_key keys (number_in m remaining_field) count → first ≡ no_key → Drains keys count d b m
  drain_out {first} a h s e n r =
      drain_end s e n r
      (λ i k.
      let none : number_in m remaining_field i ≡ 0 = least_before keys (number_in m remaining_field) count i k (omega (arith, (now.tell i k).1)) in
      let left : (on s e n r).left i ≡ 0 = sym (left_is s e n r i k) ∙ sym (field_remaining m i) ∙ none in
      omega arith)

-- x ticks are taken of the most urgent task that has some left, task f
pub record Turn (keys : List ℕ) (count d : ℕ) (b m : List ℕ) (t first f x : ℕ) : Type 0 where
  pub now : Draining keys count d b m t
  pub least : first ≡ least_key keys (number_in m remaining_field) count
  pub some : first ≡ no_key → ⊥
  pub task : f ≡ first % 16
  pub taken : x ≡ min t (entry_in m f).remaining

module _ {keys : List ℕ} {count d : ℕ} {b m : List ℕ} {t first f x : ℕ} (k : Turn keys count d b m t first f x) where
  found : Found keys (number_in m remaining_field) count first
  found =
      subst (Found keys (number_in m remaining_field) count) (sym k.least)
      (least_found keys (number_in m remaining_field) count (omega (arith, k.least, k.some, least_most keys (number_in m remaining_field) count)))

  task_is : found.place ≡ f
  task_is = sym (k.now.tell found.place found.below).0 ∙ ap (λ (n : ℕ). n % 16) found.is ∙ sym k.task

  first_below : f < count
  first_below = omega (arith, task_is, found.below)

  first_some : 0 < (entry_in m f).remaining
  first_some = subst (λ (n : ℕ). 0 < n) (field_remaining m f) (subst (λ (n : ℕ). 0 < number_in m remaining_field n) task_is found.some)

  first_key : get_or keys f 0 ≡ first
  first_key = subst (λ (n : ℕ). get_or keys n 0 ≡ first) task_is found.is

  pub turn_less : 0 < t → t - x < t
  turn_less h = omega (arith, first_some, k.taken)

  pub turn_within : x ≤ t
  turn_within = omega (arith, k.taken)

  module _ (s : State) (e : b ≡ encode s) (n : length s.entries ≡ count) (r : (i : ℕ) → i < count → remaining_of s i ≤ 65535) where
    abbrev left : ℕ → ℕ
    left = (k.now.so_far s e n r).left

    read_is : (i : ℕ) → i < count → (entry_in m i).remaining ≡ left i
    read_is = left_is k.now s e n r

    first_turn : First keys count left f t x
    first_turn = record {
      tell = k.now.tell;
      below = first_below;
      ahead_empty = λ i h l.
          sym (read_is i h)
          ∙ sym (field_remaining m i)
          ∙ least_before keys (number_in m remaining_field) count i h (omega (arith, first_key, k.least));
      taken = k.taken ∙ ap (min t) (read_is f first_below);
    }

    turn_on : {o : List ℕ} → o ≡ entry_stored m remaining_field f ((entry_in m f).remaining - t) → Drained s keys count d o (t - x)
    turn_on g = record {
      left = rest left f t;
      bytes =
          g
          ∙ ap₂ (λ (l : List ℕ) (y : ℕ). entry_stored l remaining_field f (y - t)) (k.now.so_far s e n r).bytes (read_is f first_below)
          ∙ store_remaining s (rest_of s) left f (omega (arith, first_below)) (left f - t);
      less = λ i h. omega (arith, rest_less first_turn i, (k.now.so_far s e n r).less i h);
      same = λ i h. drained_step first_turn i h ∙ (k.now.so_far s e n r).same i h;
    }

  pub turn_again : {o : List ℕ} → o ≡ entry_stored m remaining_field f ((entry_in m f).remaining - t) → Draining keys count d b o (t - x)
  turn_again g = record {
    size = ap length g ∙ length-entry_stored m remaining_field f ((entry_in m f).remaining - t) ∙ k.now.size;
    tell = k.now.tell;
    so_far = λ s e n r. turn_on s e n r g;
  }
