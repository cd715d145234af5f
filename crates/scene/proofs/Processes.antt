-- Processes, and their name spaces.
use Rattle.std.proofs.Common.{◌≡◌, ℕ, zero, suc, ◌+◌, ◌-◌, ◌<◌, ◌≤◌, true, false, cond, ◌&&◌, ◌==◌, leb, ◌≢◌, List, [], ◌∷◌, length, get_or, set, take, reverse, Some, None, Ok, Err, Option, Result, position, is_none, is_some, option_map, option_and_then, slice_get, sym, refl, ap, ◌∙◌, arith, get_or-set_other, get_or-set_same}
use Rattle.std.specs.Option.{option_map_or}
use Rattle.std.proofs.lemmas.Bool.{le-leb, leb-true, and_parts, and_from, lt-ltb, le-ltb, false≢true}
use Rattle.std.proofs.lemmas.List.Sums.{fails_before_first}
use Rattle.std.proofs.lemmas.Option.{cond_some, none-some}
use Rattle.std.proofs.Math.Dec.{eqb-suc-zero}
use Rattle.std.proofs.lemmas.List.{length-set, take_more, take-set, reverse-append, set-get_or, get_or_default}
use Rattle.std.proofs.lemmas.List.Quantifiers.{position-Some}
use Rattle.model.specs.declared.kinds.Slot.{Slot}
use Rattle.model.specs.declared.kinds.Space.{Space}
use Rattle.model.specs.declared.signals.Fault.{Fault}
use Rattle.model.specs.declared.signals.Signal.TheVariants.{Sproc, Sstop, Sroom}
use Rattle.model.specs.Signals.{fault}
use Rattle.model.specs.Model.{Task}
use Rattle.model.specs.Plan.{top_slots, last_filled, task_runs}
use Rattle.model.specs.Kalls.{put_top, lifted, respaced, on_process, put_own}
use Rattle.model.specs.SetUp.{unenrolled, or_later, newcomer}
use Rattle.scene.specs.declared.kinds.Object.{Object}
use Rattle.scene.specs.declared.kinds.Process.{Process}
use Rattle.scene.specs.Tasks.{is_running, task_of, index_of}
use Rattle.scene.specs.Abstract.{frame_of, object_of, living_of, process_of}
use Rattle.scene.proofs.Position.{position_past}
use Rattle.scene.proofs.Changed.{at_number}

pub record Index (p i : ℕ) : Type 0 where
  pub is : p ≡ i + 1
  pub within : i < 8

pub index : (p i : ℕ) → Some i ≡ index_of p → Index p i
index p i e =
    let c = cond_some (leb 1 p && leb p 8) (p - 1) i (sym e) in
    let b = and_parts (leb 1 p) (leb p 8) c.0 in
    let low : 1 ≤ p = leb-true 1 p b.0 in
    let high : p ≤ 8 = leb-true p 8 b.1 in
    record { is = omega (arith, c.1); within = omega (arith, c.1) }

pub index_at : (i : ℕ) → i < 8 → Some i ≡ index_of (i + 1)
index_at i h =
    let e : i + 1 - 1 ≡ i = omega arith in
    rw (and_from (leb 1 (i + 1)) (leb (i + 1) 8) (le-leb 1 (i + 1) (omega arith)) (le-leb (i + 1) 8 (omega arith)), e)

module _ (ps : List (Option Process)) where
  pub process_at : (p i : ℕ) → Some i ≡ index_of p → process_of ps p ≡ option_map task_of (get_or ps i None)
  unfolding process_of
  process_at p i e = ap (option_and_then (λ k. option_map task_of (get_or ps k None))) (sym e)

  pub process_none : (p : ℕ) → None ≡ index_of p → process_of ps p ≡ None
  unfolding process_of
  process_none p e = ap (option_and_then (λ k. option_map task_of (get_or ps k None))) (sym e)

  process_other : (p i : ℕ) (v : Option Process) → Some i ≡ index_of p → (q : ℕ) → (q ≡ p → ⊥) → process_of (set ps i v) q ≡ process_of ps q
  unfolding process_of
  process_other p i v e q ne = go (index_of q) refl
    where
      go : (o : Option ℕ) → index_of q ≡ o → option_and_then (λ k. option_map task_of (get_or (set ps i v) k None)) o ≡ option_and_then (λ k. option_map task_of (get_or ps k None)) o
      go None d = refl
      go (Some k) d =
          let x = index p i e in
          let y = index q k (sym d) in
          let w : k ≢ i = omega (arith, x.is, y.is) in
          ap (option_map task_of) (get_or-set_other ps i k v None w)

  -- one process is another
  module _ (objects : List (Option Object)) (slots : List Slot) (given : List ℕ) (p : ℕ) (g : Option Task → Option Task) where
    pub process_frame : (i : ℕ) (v : Option Process) → Some i ≡ index_of p → process_of (set ps i v) p ≡ g (process_of ps p) → frame_of objects slots given (set ps i v) ≡ on_process p g (frame_of objects slots given ps)
    unfolding on_process
    process_frame i v e h = λ j. record {
      object = object_of objects slots;
      living = living_of objects;
      given = λ s. get_or given s 0;
      process = at_number g p (process_of ps) (process_of (set ps i v)) h (process_other p i v e) j;
    }

    pub process_same : process_of ps p ≡ g (process_of ps p) → frame_of objects slots given ps ≡ on_process p g (frame_of objects slots given ps)
    unfolding on_process
    process_same h = λ j. record {
      object = object_of objects slots;
      living = living_of objects;
      given = λ s. get_or given s 0;
      process = at_number g p (process_of ps) (process_of ps) h (λ q ne. refl) j;
    }

-- the newest space comes first
newest : (xs : List Space) (n : ℕ) (d : Space) → n < length xs → reverse (take (n + 1) xs) ≡ get_or xs n d ∷ reverse (take n xs)
newest xs n d m = ap reverse (take_more xs n d m) ∙ reverse-append (take n xs) (get_or xs n d ∷ [])

same_top : (i : ℕ) (v : Slot) (xs : List Space) → 12 ≤ i → put_top i v xs ≡ xs
same_top i v [] h = refl
same_top i v (s ∷ xs) h = rw (le-ltb i 12 h)

-- no space, and nothing is put
pub put_nowhere : (xs : List Space) (d i : ℕ) (v : Slot) → (1 ≤ d → ⊥) → reverse (take d xs) ≡ put_top i v (reverse (take d xs))
put_nowhere xs zero i v none = refl
put_nowhere xs (suc d) i v none = absurd (none (omega arith))

-- a slot of the newest space is put
pub put_newest : (xs : List Space) (d n i : ℕ) (v : Slot) (x : Space) → 1 ≤ d → n ≡ d - 1 → d ≤ 6 → length xs ≡ 6 → i < 12
    → reverse (take d (set xs n (record { slots = set (get_or xs n x).slots i v; back = (get_or xs n x).back }))) ≡ put_top i v (reverse (take d xs))
put_newest xs d n i v x some top deep long small =
    let e : d ≡ n + 1 = omega arith in
    let m : n < length xs = omega arith in
    let old : Space = get_or xs n x in
    let new : Space = record { slots = set old.slots i v; back = old.back } in
    let k : length (set xs n new) ≡ length xs = length-set xs n new in
    let put : put_top i v (old ∷ reverse (take n xs)) ≡ new ∷ reverse (take n xs) = rw (lt-ltb i 12 small) in
    rw e
    (newest (set xs n new) n x (omega (arith, k))
    ∙ rw (get_or-set_same xs n new x m, take-set xs n new) (sym (ap (put_top i v) (newest xs n x m) ∙ put)))

module _ (objects : List (Option Object)) (slots : List Slot) (given : List ℕ) (ps : List (Option Process)) (p i : ℕ) (v : Slot) where
  abbrev on_top : Option Task → Option Task
  on_top = lifted (respaced (put_top i v))

  far_task : (o : Option Task) → 12 ≤ i → o ≡ on_top o
  far_task None h = refl
  far_task (Some t) h = λ j. Some (record { running = t.running; spaces = sym (same_top i v t.spaces h) j })

  pub put_far : 12 ≤ i → frame_of objects slots given ps ≡ put_own p i v (frame_of objects slots given ps)
  unfolding put_own
  put_far h = process_same ps objects slots given p on_top (far_task (process_of ps p) h)

  pub put_nobody : None ≡ index_of p → frame_of objects slots given ps ≡ put_own p i v (frame_of objects slots given ps)
  unfolding put_own
  put_nobody e = let n = process_none ps p e in process_same ps objects slots given p on_top (n ∙ sym (ap on_top n))

  -- the process at k is written back
  module _ (k : ℕ) (is : Some k ≡ index_of p) where
    pub put_absent : (x : Option Process) → length ps ≡ 8 → get_or ps k x ≡ None → frame_of objects slots given (set ps k (get_or ps k x)) ≡ put_own p i v (frame_of objects slots given ps)
    unfolding put_own
    put_absent x long none =
        let n : process_of ps p ≡ None = process_at ps p k is ∙ ap (option_map task_of) (get_or_default ps k None x (omega (arith, (index p k is).within)) ∙ none) in
        ap (frame_of objects slots given) (set-get_or ps k x)
        ∙ process_same ps objects slots given p on_top (n ∙ sym (ap on_top n))

    pub put_space : (t new : Process) (x : Option Process) → length ps ≡ 8 → get_or ps k x ≡ Some t → new.state ≡ t.state
        → reverse (take new.depth new.spaces) ≡ put_top i v (reverse (take t.depth t.spaces))
        → frame_of objects slots given (set ps k (Some new)) ≡ put_own p i v (frame_of objects slots given ps)
    unfolding put_own
    put_space t new x long here s h =
        process_frame ps objects slots given p on_top k _ is
        (process_at (set ps k _) p k is ∙ ap (option_map task_of) (get_or-set_same ps k _ None (omega (arith, long, (index p k is).within)))
        ∙ (λ j. Some (record { running = is_running (s j); spaces = h j }))
        ∙ sym (ap on_top (process_at ps p k is ∙ ap (option_map task_of) (get_or_default ps k None x (omega (arith, long, (index p k is).within)) ∙ here))))

-- the length of the current name space
pub top_is : (r : Option Space) (xs : List Space) → r ≡ slice_get xs 0 → option_map_or (λ s. last_filled s.slots) r 0 ≡ last_filled (top_slots xs)
unfolding last_filled
top_is r [] e = rw e
top_is r (s ∷ xs) e = rw e

-- the first process that is not enrolled
later_none : (later : Result ℕ Fault) (p : ℕ) (o : Option Task) → o ≡ None → or_later later p o ≡ Ok p
later_none later p o e = rw e

later_some : (later : Result ℕ Fault) (p : ℕ) (o : Option Task) → is_some o ≡ true → or_later later p o ≡ later
later_some later p None h = absurd (false≢true h)
later_some later p (Some t) h = refl

module _ (f : ℕ → Option Task) where
  next : (k p : ℕ) → ((q : ℕ) → q < suc k → is_some (f (p + q)) ≡ true) → (q : ℕ) → q < k → is_some (f (p + 1 + q)) ≡ true
  next k p h q l = let e : p + suc q ≡ p + 1 + q = omega arith in rw e at (h (suc q) (omega arith))

  first : (k p : ℕ) → ((q : ℕ) → q < suc k → is_some (f (p + q)) ≡ true) → is_some (f p) ≡ true
  first k p h = let e : p + 0 ≡ p = omega arith in rw e at (h 0 (omega arith))

  enrol_here : (k p j : ℕ) → j < k → f (p + j) ≡ None → ((q : ℕ) → q < j → is_some (f (p + q)) ≡ true) → unenrolled f k p ≡ Ok (p + j)
  unfolding unenrolled
  enrol_here zero p j l e h = absurd (omega arith)
  enrol_here (suc k) p zero l e h = let z : p + 0 ≡ p = omega arith in rw z (later_none (unenrolled f k (p + 1)) p (f p) (rw z at e))
  enrol_here (suc k) p (suc j) l e h =
      let z : p + suc j ≡ p + 1 + j = omega arith in
      later_some (unenrolled f k (p + 1)) p (f p) (first j p h) ∙ rw z (enrol_here k (p + 1) j (omega arith) (rw z at e) (next j p h))

  enrol_none : (k p : ℕ) → ((q : ℕ) → q < k → is_some (f (p + q)) ≡ true) → unenrolled f k p ≡ Err (fault Sroom 0)
  unfolding unenrolled
  enrol_none zero p h = refl
  enrol_none (suc k) p h = later_some (unenrolled f k (p + 1)) p (f p) (first k p h) ∙ enrol_none k (p + 1) (next k p h)

enrolled_at : (ps : List (Option Process)) (q : ℕ) → q < 8 → is_none (get_or ps q None) ≡ false → is_some (process_of ps (1 + q)) ≡ true
enrolled_at ps q l h = let e : q + 1 ≡ 1 + q = omega arith in rw (sym e, process_at ps (q + 1) q (index_at q l)) (some_then (get_or ps q None) h)
  where
    some_then : (o : Option Process) → is_none o ≡ false → is_some (option_map task_of o) ≡ true
    some_then None h = absurd (false≢true (sym h))
    some_then (Some t) h = refl

nobody_at : (ps : List (Option Process)) (q : ℕ) → q < 8 → is_none (get_or ps q None) ≡ true → process_of ps (1 + q) ≡ None
nobody_at ps q l h = let e : q + 1 ≡ 1 + q = omega arith in rw (sym e, process_at ps (q + 1) q (index_at q l)) (none_then (get_or ps q None) h)
  where
    none_then : (o : Option Process) → is_none o ≡ true → option_map task_of o ≡ None
    none_then None h = refl
    none_then (Some t) h = absurd (false≢true h)

pub enrols_none : (ps : List (Option Process)) → length ps ≡ 8 → None ≡ position is_none ps → unenrolled (process_of ps) 8 1 ≡ Err (fault Sroom 0)
enrols_none ps long e = enrol_none (process_of ps) 8 1 (λ q l. enrolled_at ps q l (fails_before_first is_none ps q None (omega (arith, position_past is_none ps e))))

pub enrols : (ps : List (Option Process)) (i : ℕ) → length ps ≡ 8 → Some i ≡ position is_none ps → (i < 8) × (unenrolled (process_of ps) 8 1 ≡ Ok (i + 1))
enrols ps i long e =
    let h = position-Some is_none ps i None (sym e) in
    let l : i < 8 = omega (arith, h.0) in
    let z : 1 + i ≡ i + 1 = omega arith in
    (l, enrol_here (process_of ps) 8 1 i l (nobody_at ps i l h.1) (λ q m. enrolled_at ps q (omega arith) (h.2 q m)) ∙ ap Ok z)

pub enrolled_frame : (objects : List (Option Object)) (slots : List Slot) (given : List ℕ) (ps : List (Option Process)) (i : ℕ) (t : Process) → length ps ≡ 8 → i < 8 → Some (task_of t) ≡ newcomer
    → frame_of objects slots given (set ps i (Some t)) ≡ on_process (i + 1) (λ _. newcomer) (frame_of objects slots given ps)
enrolled_frame objects slots given ps i t long l new =
    process_frame ps objects slots given (i + 1) (λ _. newcomer) i (Some t) (index_at i l)
    (process_at (set ps i (Some t)) (i + 1) i (index_at i l) ∙ ap (option_map task_of) (get_or-set_same ps i (Some t) None (omega arith)) ∙ new)

-- whoever is enrolled runs or is stopped, and is not process 0
pub runs_is : (ps : List (Option Process)) (p : ℕ) (t : Task) → Some t ≡ process_of ps p
    → cond (p == 0) (Err (fault Sproc 0)) (task_runs (process_of ps p)) ≡ cond t.running (Ok tt) (Err (fault Sstop 0))
unfolding process_of
runs_is ps zero t e = absurd (none-some t (sym e))
runs_is ps (suc p) t e = rw (eqb-suc-zero p) (ap task_runs (sym e))
