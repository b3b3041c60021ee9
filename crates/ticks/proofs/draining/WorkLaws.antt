-- The running job's work in a state's bytes.
-- Assumes nothing.
use Prim.Native.Nat.{ℕ, ◌<◌, ◌≤◌}
use mathlib.Core.Path.{◌≡◌, refl, sym, ap, ap₂, subst, ◌∙◌}
use mathlib.Core.Bool.{Bool, true, false}
use mathlib.Core.List.{List}
use native.Mathlib.Decide.{ℕ_discrete}
use native.Mathlib.Omega.{arith}
use borrow.Author.Tests.{eq-eqb, ne_eqb}
use lib.ListN.{length, get_or}
use Rattle.arith.specs.Choice.{pick}
use Rattle.plan.specs.declared.Rest.{Rest}
use Rattle.plan.specs.Times.{no_rest, worn}
use Rattle.plan.specs.Levels.{speed_of}
use Rattle.levels.specs.Code.{loaded, Table}
use Rattle.levels.proofs.Tables.{speed_is}
use Rattle.orders.specs.declared.Choice.{Choice}
use Rattle.reclaiming.specs.StateBlock.{State, remaining_of, rest_in, rest_of, encode, state_length, places}
use Rattle.reclaiming.specs.States.{worked_of}
use Rattle.state.specs.Code.{entry_in, changed, with_jobs, rest_stored, FitRest}
use Rattle.state.proofs.BlockLaws.{changed_there, changed_else, encode_rest, jobs_same, jobs_eq, store_rest}

-- m is what d ticks of an order leave of a state in b
abbrev pub Works : List ℕ → List ℕ → Choice → ℕ → Bool → List ℕ → Type 0
Works speeds b c d finished m =
    (s : State) →
    b ≡ encode s →
    c.task ≡ s.task →
    c.level ≡ s.level →
    length s.entries ≤ places →
    ((s.task ≡ 255 → ⊥) → (s.task < length s.entries) × FitRest (rest_of s s.task)) →
    m ≡ encode (with_jobs s (worked_of speeds s d finished) (remaining_of s))

-- what is left of the order's job: nothing where it finished
abbrev ran : List ℕ → State → ℕ → Bool → Rest → Rest
ran speeds s d finished r = pick finished no_rest (worn (speed_of speeds s.level) d r)

-- no task is run
pub worked_idle : (speeds b : List ℕ) (c : Choice) (d : ℕ) (finished : Bool) → c.task ≡ 255 → Works speeds b c d finished b
worked_idle speeds b c d finished h s e t l few runs =
    e
    ∙ ap encode
    (sym (jobs_same s)
    ∙ jobs_eq s (rest_of s) (worked_of speeds s d finished) (remaining_of s) (remaining_of s)
    (λ i k. ap (λ (z : Bool). pick z (ran speeds s d finished (rest_of s i)) (rest_of s i)) (sym (ne_eqb i s.task (λ q. omega arith))))
    (λ i k. refl))

-- an order runs one of the tasks at one of the levels, for d ticks
pub record Running (levels : ℕ) (b : List ℕ) (c : Choice) (d : ℕ) (finished : Bool) : Type 0 where
  pub size : length b ≡ state_length
  pub short : d ≤ 65535
  pub some : c.task ≡ 255 → ⊥
  pub task : c.task < places
  pub level : c.level < levels

module _ {levels : ℕ} {b : List ℕ} {c : Choice} {d : ℕ} {finished : Bool} (k : Running levels b c d finished) (speeds : List ℕ) where
  -- what is stored is what the definition says of the running task
  worked_store :
      (s : State) →
      b ≡ encode s →
      c.task ≡ s.task →
      s.task < length s.entries →
      (x : Rest) →
      x ≡ ran speeds s d finished (rest_of s c.task) →
      {m : List ℕ} →
      m ≡ rest_stored b c.task x →
      m ≡ encode (with_jobs s (worked_of speeds s d finished) (remaining_of s))
  worked_store s e t h x v w =
      w
      ∙ ap (λ (l : List ℕ). rest_stored l c.task x) (e ∙ ap encode (sym (jobs_same s)))
      ∙ store_rest s (rest_of s) (remaining_of s) c.task (omega arith) x
      ∙ ap encode
      (jobs_eq s (changed (rest_of s) c.task x) (worked_of speeds s d finished) (remaining_of s) (remaining_of s)
      (λ i l. elim (ℕ_discrete i c.task) [
        | yes q ↦
            changed_there (rest_of s) c.task x i q
            ∙ v
            ∙ ap (λ (y : ℕ). ran speeds s d finished (rest_of s y)) (sym q)
            ∙ ap (λ (z : Bool). pick z (ran speeds s d finished (rest_of s i)) (rest_of s i)) (sym (eq-eqb i s.task (q ∙ t)))
        | no q ↦
            changed_else (rest_of s) c.task x i q
            ∙ ap (λ (z : Bool). pick z (ran speeds s d finished (rest_of s i)) (rest_of s i)) (sym (ne_eqb i s.task (λ z. q (z ∙ sym t))))
      ])
      (λ i l. refl))

  -- its job finished
  pub worked_done : finished ≡ true → {x : Rest} → x ≡ no_rest → {m : List ℕ} → m ≡ rest_stored b c.task x → Works speeds b c d finished m
  worked_done f {x} none w s e t l few runs =
      worked_store s e t (runs (λ q. k.some (t ∙ q))).0 x
      (none ∙ ap (λ (y : Bool). pick y no_rest (worn (speed_of speeds s.level) d (rest_of s c.task))) (sym f)) w

-- it did not: the level's speed and what was left are read
pub record Working (held : List ℕ) (levels : ℕ) (b : List ℕ) (c : Choice) (d : ℕ) (finished : Bool) (rest : Rest) : Type 0 where
  pub table : Table held levels
  pub running : Running levels b c d finished
  pub goes_on : finished ≡ false
  pub rest_is : rest ≡ rest_in (entry_in b c.task)

module _ {held : List ℕ} {levels : ℕ} {b : List ℕ} {c : Choice} {d : ℕ} {finished : Bool} {rest : Rest} (k : Working held levels b c d finished rest) where
  abbrev table_speeds : List ℕ
  table_speeds = loaded held levels

  pub worked_fallen :
      {x : Rest} → x ≡ worn (get_or held c.level 0) d rest → {m : List ℕ} → m ≡ rest_stored b c.task x → Works (loaded held levels) b c d finished m
  worked_fallen {x} z w s e t l few runs =
      let r : (s.task < length s.entries) × FitRest (rest_of s s.task) = runs (λ y. k.running.some (t ∙ y)) in
      let v : rest ≡ rest_of s c.task =
      k.rest_is
      ∙ ap (λ (y : List ℕ). rest_in (entry_in y c.task)) e
      ∙ encode_rest s c.task (omega arith) (subst (λ (y : ℕ). FitRest (rest_of s y)) (sym t) r.1) in
      worked_store k.running table_speeds s e t r.0 x
      (z
      ∙ ap₂ (λ (u : ℕ) (y : Rest). worn u d y) (speed_is k.table c.level k.running.level ∙ ap (speed_of table_speeds) l) v
      ∙ ap (λ (y : Bool). pick y no_rest (worn (speed_of table_speeds s.level) d (rest_of s c.task))) (sym k.goes_on))
      w
