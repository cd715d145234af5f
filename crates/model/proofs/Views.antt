-- What a plan can read, each thing sound.
use Rattle.std.proofs.Common.{◌≡◌, ℕ, zero, suc, ◌+◌, ◌-◌, ◌≤◌, Bool, true, false, cond, ◌&&◌, T, eqb, ltb, leb, List, [], ◌∷◌, length, get_or, set, replicate, Some, None, Ok, Err, Option, Result, sym, refl, ap, ◌∙◌, subst, ap₂, inl, inr, true≢false, arith, lit≤, eqb→eq}
use Rattle.std.proofs.lemmas.Bool.{and_from, and_parts, false≢true}
use Rattle.model.specs.declared.kinds.Name.{Name}
use Rattle.model.specs.declared.kinds.Cap.{Cap}
use Rattle.model.specs.declared.kinds.Slot.{Slot}
use Rattle.model.specs.declared.kinds.Slot.TheVariants.{Empty, Capability, Template}
use Rattle.model.specs.declared.kinds.Space.{Space}
use Rattle.model.specs.declared.kinds.Change.TheVariants.{Taken, Loaded, Moved, Stored}
use Rattle.model.specs.declared.kinds.Holder.{Holder}
use Rattle.model.specs.declared.kinds.Holder.TheVariants.{Mine, Listed}
use Rattle.model.specs.declared.signals.Fault.{Fault}
use Rattle.model.specs.declared.signals.Signal.TheVariants.{Sindex, Sgone, Srts, Sproc, Sstop, Sroom, Snames}
use Rattle.model.specs.Signals.{fault}
use Rattle.model.specs.Model.{Body, Task, Rule, mdfyrts, ucnfrts}
use Rattle.model.specs.Plan.{
  runs,
  task_runs,
  mask_ok,
  path_ok,
  enter,
  spaces_of,
  top_slot,
  body_slot,
  slot_in,
  slot_at,
  room,
  grants_all,
  filled_with,
  held,
  unfilled,
  vacant,
  present,
  lives,
  through,
  object_at,
  asked_of,
  go,
  walk,
  last_filled,
  top_slots,
  length_of,
  list_of,
  list_length,
  after_length,
  next_slot,
  new_number,
  new_object,
  places,
  most_of,
  part_limit,
}
use Rattle.model.specs.Isolation.{If, Look}
use Rattle.model.specs.Kalls.{on_rights, masked, changed}
use Rattle.model.proofs.Safe.{Setting, Level, inside, outside, anything, level, Side, Fit, Fits, FitsSpaces, Own, OwnAt, Near, On, Sound, bind, pure, branch}

-- the right k is among those that a list asks for
abbrev pub asks : ℕ → List ℕ → Bool
asks k [] = false
asks k (j ∷ l) = cond (eqb j k) true (asks k l)

pub granted : (rule : Rule) (r k : ℕ) (l : List ℕ) → T (asks k l) → grants_all rule r l ≡ true → rule.grants r k ≡ true
granted rule r k [] t e = elim t [ ]
granted rule r k (j ∷ l) t e =
    go (eqb j k) refl t (λ u. granted rule r k l u ((and_parts (rule.grants r j) (grants_all rule r l) e).1))
  where
    go : (c : Bool) → eqb j k ≡ c → T (cond c true (asks k l)) → (T (asks k l) → rule.grants r k ≡ true) → rule.grants r k ≡ true
    go true h u f = subst (λ x. rule.grants r x ≡ true) (eqb→eq j k (rw h tt)) ((and_parts (rule.grants r j) (grants_all rule r l) e).0)
    go false h u f = f u

module _ (S : Setting) where
  -- slots of a list
  pub fit_at : (v : Level) (l : List Slot) (i : ℕ) → Fits S v l → Fit S v (get_or l i Empty)
  fit_at v [] i h = tt
  fit_at v (s ∷ l) zero h = h.0
  fit_at v (s ∷ l) (suc i) h = fit_at v l i h.1

  pub fits_set : (v : Level) (l : List Slot) (i : ℕ) (s : Slot) → Fits S v l → Fit S v s → Fits S v (set l i s)
  fits_set v [] i s h f = tt
  fits_set v (t ∷ l) zero s h f = (f, h.1)
  fits_set v (t ∷ l) (suc i) s h f = (h.0, fits_set v l i s h.1 f)

  pub fits_empty : (v : Level) (k : ℕ) → Fits S v (replicate k Empty)
  fits_empty v zero = tt
  fits_empty v (suc k) = (tt, fits_empty v k)

  pub fit_any : (s : Slot) → Fit S anything s
  fit_any Empty = tt
  fit_any (Capability x) = tt
  fit_any (Template y) = tt

  pub fits_any : (l : List Slot) → Fits S anything l
  fits_any [] = tt
  fits_any (s ∷ l) = (fit_any s, fits_any l)

  -- a change of rights that never adds 9 or 10
  abbrev pub Modest : (ℕ → ℕ) → Type 0
  Modest f = (r : ℕ) → Look S.rule r → Look S.rule (f r)

  pub fit_on : (v : Level) (f : ℕ → ℕ) (s : Slot) → Modest f → Fit S v s → Fit S v (on_rights f s)
  fit_on v f Empty m h = tt
  fit_on inside f (Capability x) m h = h
  fit_on outside f (Capability x) m h = λ k. m x.rights (h k)
  fit_on anything f (Capability x) m h = tt
  fit_on v f (Template y) m h = tt

  pub modest_add : Modest S.rule.add_delete
  modest_add r h =
      (S.laws.add_delete_exact r 9 (lit≤ tt) ∙ rw h.0, S.laws.add_delete_exact r 10 (lit≤ tt) ∙ rw h.1)

  -- what is near is no more than what is clear
  pub fit_lower : (b u : Bool) (s : Slot) → Fit S (level b true) s → Fit S (level b u) s
  fit_lower true u s h = h
  fit_lower false true s h = h
  fit_lower false false s h = fit_any s

  modest_restrict : (m : ℕ) → Modest (λ r. S.rule.restrict r m)
  modest_restrict m r h = (
    S.laws.restrict_both r m 9 (lit≤ tt) ∙ ap (λ x. x && S.rule.grants m 9) h.0,
    S.laws.restrict_both r m 10 (lit≤ tt) ∙ ap (λ x. x && S.rule.grants m 10) h.1,
  )

  modest_mask : (mask : Option ℕ) → Modest (masked S.rule mask)
  modest_mask None r h = h
  modest_mask (Some m) r h = modest_restrict m r h

  -- what a walk brought out fits the caller, once it is confined
  pub fit_taken : (b u : Bool) (s : Slot) → Fit S (level b u) s → Fit S (level b true) (changed S.rule (Taken u) s)
  unfolding changed
  fit_taken b u Empty h = tt
  fit_taken b u (Template y) h = tt
  fit_taken true u (Capability x) h = h
  fit_taken false true (Capability x) h = h
  fit_taken false false (Capability x) h = λ k. (S.laws.strip_modify x.rights, S.laws.strip_unconfined x.rights)

  pub fit_loaded : (b u : Bool) (s : Slot) → Fit S (level b u) s → Fit S (level b true) (changed S.rule (Loaded u) s)
  unfolding changed
  fit_loaded b u Empty h = tt
  fit_loaded b u (Template y) h = tt
  fit_loaded b u (Capability x) h = fit_on (level b true) S.rule.add_delete (changed S.rule (Taken u) (Capability x)) modest_add (fit_taken b u (Capability x) h)

  pub fit_moved : (v : Level) (mask : Option ℕ) (s : Slot) → Fit S v s → Fit S v (changed S.rule (Moved mask) s)
  unfolding changed
  fit_moved v mask s h = fit_on v (masked S.rule mask) s (modest_mask mask) h

  pub fit_stored : (v : Level) (mask : Option ℕ) (s : Slot) → Fit S v s → Fit S v (changed S.rule (Stored mask) s)
  unfolding changed
  fit_stored v mask s h = fit_on v (λ r. masked S.rule mask (S.rule.add_delete r)) s (λ r k. modest_mask mask (S.rule.add_delete r) (modest_add r k)) h

-- a place that the caller reached
pub record Place (S : Setting) (b : Bool) (h : Holder) (u : Bool) : Type 0 where
  pub near : Near S b u h

pub here : {S : Setting} {b : Bool} → Place S b Mine true
here = record { near = tt }

-- what is known of a capability that led to an object, ks being the rights that were asked
pub record Known (S : Setting) (b u : Bool) (ks : List ℕ) (c : Cap) : Type 0 where
  pub place : Place S b (Listed c.name) (u && S.rule.grants c.rights ucnfrts)
  pub own : (u && S.rule.grants c.rights mdfyrts) ≡ true → Own S b c.name
  pub grants : grants_all S.rule c.rights ks ≡ true

-- where a walk stands, ks being what it asks of steps, and ls what it asked last
pub record Stands (S : Setting) (b : Bool) (ks ls : List ℕ) (h : Holder) (u : Bool) : Type 0 where
  pub place : Place S b h u
  pub clear : T (asks 10 ks) → T (asks 10 ls) → u ≡ true
  pub own : T (asks 10 ks) → T (asks 9 ls) → OwnAt S b h

module _ (S : Setting) where
  fits_top : (b u : Bool) (i at : ℕ) (l : List Space) → FitsSpaces S b l → On (Fit S (level b u)) (top_slot i at l)
  fits_top b u i at [] h = tt
  fits_top b u i at (sp ∷ l) h = test (ltb i 12)
    where
      test : (x : Bool) → On (Fit S (level b u)) (cond x (Ok (get_or sp.slots i Empty)) (Err (fault Sindex at)))
      test true = fit_lower S b u _ (fit_at S (level b true) sp.slots i h.0)
      test false = tt

  fits_task : (b u : Bool) (i at : ℕ) (o : Option Task) → If (λ pr. FitsSpaces S b pr.spaces) o → On (Fit S (level b u)) (top_slot i at (spaces_of o))
  fits_task b u i at None h = tt
  fits_task b u i at (Some t) h = fits_top b u i at t.spaces h

  fits_body : (v : Level) (i at : ℕ) (o : Option Body) → If (λ o. Fits S v o.list) o → On (Fit S v) (body_slot i at o)
  fits_body v i at None h = tt
  fits_body v i at (Some o) h = test (ltb i (room o.kind))
    where
      test : (x : Bool) → On (Fit S v) (cond x (Ok (get_or o.list i Empty)) (Err (fault Sindex at)))
      test true = fit_at S v o.list i h
      test false = tt

  if_any : (o : Option Body) → If (λ o. Fits S anything o.list) o
  if_any None = tt
  if_any (Some o) = fits_any S o.list

  sound_slot_in : {E : Type 0} (b : Bool) (p : ℕ) → S.cast p ≡ b → (h : Holder) (u : Bool) (i at : ℕ) → Near S b u h
      → Sound {E = E} S b (λ w. slot_in w.frame p h i at) (Fit S (level b u))
  sound_slot_in b p c Mine u i at n =
      record {
        good = λ w v. fits_task b u i at (w.frame.process p) (subst (λ x. If (λ pr. FitsSpaces S x pr.spaces) (w.frame.process p)) c (v.spaces p));
        same = λ t v w _ _ a. ap (λ o. top_slot i at (spaces_of o)) (a.frame.process p (c ∙ t));
      }
  sound_slot_in true p c (Listed m) u i at n =
      record {
        good = λ w v. fits_body inside i at (w.frame.object m) (v.lists true m n);
        same = λ t v w _ _ a. ap (body_slot i at) (a.frame.object m n);
      }
  sound_slot_in false p c (Listed m) true i at n =
      record { good = λ w v. fits_body outside i at (w.frame.object m) (v.lists false m n); same = λ t. absurd (false≢true t) }
  sound_slot_in false p c (Listed m) false i at n =
      record { good = λ w v. fits_body anything i at (w.frame.object m) (if_any (w.frame.object m)); same = λ t. absurd (false≢true t) }

  near_of : (b u g : Bool) (x : Cap) → S.rule.grants x.rights ucnfrts ≡ g → (b ≡ true → S.Kept x.name) → Side S (level b u) x
      → Near S b (u && g) (Listed x.name)
  near_of true u g x e k s = k refl
  near_of false true true x e k s = λ q. false≢true (sym (s q).1 ∙ e)
  near_of false true false x e k s = tt
  near_of false false g x e k s = tt

  own_of : (b u : Bool) (x : Cap) → (b ≡ true → S.Kept x.name) → Side S (level b u) x
      → (u && S.rule.grants x.rights mdfyrts) ≡ true → Own S b x.name
  own_of true u x k s e = k refl
  own_of false true x k s e = λ q. false≢true (sym (s q).0 ∙ e)
  own_of false false x k s e = absurd (false≢true e)

  module _ (b u : Bool) (ks : List ℕ) (i : ℕ) where
    known : (x : Cap) → (b ≡ true → S.Kept x.name) → Side S (level b u) x → (l : Bool) → On (Known S b u ks) (cond l (cond (grants_all S.rule x.rights ks) (Ok x) (Err (fault Srts i))) (Err (fault Sgone i)))
    known x k s false = tt
    known x k s true = test (grants_all S.rule x.rights ks) refl
      where
        test : (g : Bool) → grants_all S.rule x.rights ks ≡ g → On (Known S b u ks) (cond g (Ok x) (Err (fault Srts i)))
        test true e = record { place = record { near = near_of b u _ x refl k s }; own = own_of b u x k s; grants = e }
        test false e = tt

  sound_through : {E : Type 0} (b u : Bool) (ks : List ℕ) (i : ℕ) (s : Slot) → Fit S (level b u) s → Sound {E = E} S b (λ w. through S.rule w.frame ks i s) (Known S b u ks)
  sound_through b u ks i Empty h = pure (Err _) tt
  sound_through b u ks i (Template y) h = pure (Err _) tt
  sound_through true u ks i (Capability x) (inl k) =
      record {
        good = λ w v. known true u ks i x (λ _. k) (inl k) (lives w.frame x.name);
        same = λ t v w _ _ a. ap (λ o. cond (present o) (cond (grants_all S.rule x.rights ks) (Ok x) (Err (fault Srts i))) (Err (fault Sgone i))) (a.frame.object x.name k);
      }
  sound_through true u ks i (Capability x) (inr k) =
      record {
        good = λ w v. rw (v.gone x.name k) tt;
        same = λ t v w f g a. ap (λ o. cond (present o) (cond (grants_all S.rule x.rights ks) (Ok x) (Err (fault Srts i))) (Err (fault Sgone i))) (f.gone x.name k ∙ sym (g.gone x.name k));
      }
  sound_through false u ks i (Capability x) h =
      record {
        good = λ w v. known false u ks i x (λ t. absurd (false≢true t)) h (lives w.frame x.name);
        same = λ t. absurd (false≢true t);
      }

  fit_filled : (v : Level) (ks : List ℕ) (i : ℕ) (s : Slot) → Fit S v s → On (Fit S v) (filled_with S.rule ks i s)
  fit_filled v ks i Empty h = tt
  fit_filled v ks i (Capability x) h = test (grants_all S.rule x.rights ks)
    where
      test : (g : Bool) → On (Fit S v) (cond g (Ok (Capability x)) (Err (fault Srts i)))
      test true = h
      test false = tt
  fit_filled v ks i (Template y) h = test (grants_all S.rule y.rights ks)
    where
      test : (g : Bool) → On (Fit S v) (cond g (Ok (Template y)) (Err (fault Srts i)))
      test true = tt
      test false = tt

  pub on_any : {A : Type 0} (x : Result A Fault) → On (λ _. Unit {0}) x
  on_any (Ok a) = tt
  on_any (Err e) = tt

-- a walk goes through one more object
module _ {S : Setting} {b : Bool} (ks : List ℕ) where
  entered : (js : List ℕ) (h : Holder) (u : Bool) (x : Cap) → Stands S b ks ks h u → Known S b u js x
      → Stands S b ks js (Listed x.name) (u && S.rule.grants x.rights ucnfrts)
  entered js h u x st k =
      record {
        place = k.place;
        clear = λ t v. and_from _ _ (st.clear t t) (granted S.rule x.rights ucnfrts js v k.grants);
        own = λ t v. k.own (and_from _ _ (st.clear t t) (granted S.rule x.rights mdfyrts js v k.grants));
      }

module _ {E : Type 0} {S : Setting} {b : Bool} (p : ℕ) (c : S.cast p ≡ b) where
  sound_slot_at : {h : Holder} {u : Bool} (i at : ℕ) → Place S b h u → Sound {E = E} S b (λ w. slot_at w.frame p h i at) (Fit S (level b u))
  sound_slot_at {h} {u} i at n = branch (eqb i 0) (pure (Err _) tt) (sound_slot_in S b p c h u (i - 1) at n.near)

  pub sound_runs : Sound {E = E} S b (λ w. runs p w.frame) (λ _. 1 ≤ p)
  unfolding runs
  sound_runs = test (eqb p 0) refl
    where
      task : (x : Option Task) → 1 ≤ p → On (λ _. 1 ≤ p) (task_runs x)
      task None h = tt
      task (Some t) h = runner t.running
        where
          runner : (r : Bool) → On {A = Unit {0}} (λ _. 1 ≤ p) (cond r (Ok tt) (Err (fault Sstop 0)))
          runner true = h
          runner false = tt

      positive : (q : ℕ) → eqb q 0 ≡ false → 1 ≤ q
      positive zero e = absurd (true≢false e)
      positive (suc q) e = omega arith

      test : (x : Bool) → eqb p 0 ≡ x → Sound {E = E} S b (λ w. cond x (Err (fault Sproc 0)) (task_runs (w.frame.process p))) (λ _. 1 ≤ p)
      test true e = pure (Err _) tt
      test false e =
          record { good = λ w v. task (w.frame.process p) (positive p e); same = λ t v w _ _ a. ap task_runs (a.frame.process p (c ∙ t)) }

  pub sound_enter : (mask : Option ℕ) (len : ℕ) → Sound {E = E} S b (λ w. enter S.rule p mask len w.frame) (λ _. 1 ≤ p)
  unfolding enter
  sound_enter mask len =
      bind sound_runs λ _ h.
      bind {Q = λ _. Unit {0}} (pure (mask_ok S.rule mask) (on_any S _)) λ _ _.
      branch (leb 1 len && leb len 6) (pure (Ok tt) h) (pure (Err _) tt)

  pub sound_object_at : {h : Holder} {u : Bool} (ks : List ℕ) (i at : ℕ) → Place S b h u → Sound {E = E} S b (λ w. object_at S.rule ks p h i at w.frame) (Known S b u ks)
  unfolding object_at
  sound_object_at {h} {u} ks i at n = bind (sound_slot_at i at n) λ s f. sound_through S b u ks at s f

  pub sound_held : {h : Holder} {u : Bool} (ks : List ℕ) (i at : ℕ) → Place S b h u → Sound {E = E} S b (λ w. held S.rule ks p h i at w.frame) (Fit S (level b u))
  unfolding held
  sound_held {h} {u} ks i at n = bind (sound_slot_at i at n) λ s f. pure (filled_with S.rule ks at s) (fit_filled S (level b u) ks at s f)

  pub sound_vacant : {h : Holder} {u : Bool} (i at : ℕ) → Place S b h u → Sound {E = E} S b (λ w. vacant p h i at w.frame) (λ _. Unit {0})
  unfolding vacant
  sound_vacant i at n = bind (sound_slot_at i at n) λ s f. pure (unfilled at s) (on_any S _)

  module _ (ks ls : List ℕ) where
    sound_go : (i : ℕ) (is : List ℕ) (h : Holder) (at : ℕ) (u : Bool) → Stands S b ks (asked_of ks ls is) h u
        → Sound {E = E} S b (λ w. go S.rule ks ls p (i ∷ is) h at u w.frame) (λ t. Stands S b ks ls t.site.holder t.clear)
    unfolding go
    sound_go i [] h at u st = pure (Ok _) st
    sound_go i (j ∷ is) h at u st =
        bind (sound_object_at (asked_of ks ls is) i at st.place) λ x k.
        sound_go j is (Listed x.name) (at + 1) (u && S.rule.grants x.rights ucnfrts) (entered ks (asked_of ks ls is) h u x st k)

    sound_from : (path : List ℕ) → Sound {E = E} S b (λ w. go S.rule ks ls p path Mine 1 true w.frame) (λ t. Stands S b ks ls t.site.holder t.clear)
    unfolding go
    sound_from [] = pure (Err _) tt
    sound_from (i ∷ is) = sound_go i is Mine 1 true (record { place = here; clear = λ _ _. refl; own = λ _ _. tt })

    pub sound_walk : (path : List ℕ) → Sound {E = E} S b (λ w. walk S.rule ks ls p path w.frame) (λ t. Stands S b ks ls t.site.holder t.clear)
    unfolding walk
    sound_walk path = bind {Q = λ _. Unit {0}} (pure (path_ok (length path)) (on_any S _)) λ _ _. sound_from path

  pub sound_new_object : (xs : List E) → Sound {E = E} S b (λ w. new_object p xs w.frame) (λ _. Unit {0})
  unfolding new_object new_number
  sound_new_object xs =
      branch (leb (length xs) 64)
      (record {
        good = λ w v. on_any S _;
        same = λ t v w _ _ a. ap₂ (λ l g. cond (leb (places p) l) (Err (fault Sroom 0)) (cond (leb 60000 g) (Err (fault Snames 0)) (Ok (g + 1)))) (a.frame.living p (c ∙ t)) (a.frame.given p (c ∙ t));
      })
      (pure (Err _) tt)

  pub sound_length : Sound {E = E} S b (λ w. length_of p w.frame) (λ _. Unit {0})
  unfolding length_of
  sound_length = record { good = λ w v. tt; same = λ t v w _ _ a. ap (λ o. Ok (last_filled (top_slots (spaces_of o)))) (a.frame.process p (c ∙ t)) }

-- an object that an open writing walk reached, with the right to modify it
pub owned_by : {S : Setting} {b : Bool} {ks ls js : List ℕ} {h : Holder} {u : Bool} {x : Cap} → Stands S b ks ls h u → Known S b u js x
    → T (asks ucnfrts ks) → T (asks ucnfrts ls) → T (asks mdfyrts js) → Own S b x.name
owned_by {S} {b} {ks} {ls} {js} {h} {u} {x} st k t v m = k.own (and_from _ _ (st.clear t v) (granted S.rule x.rights mdfyrts js m k.grants))

-- what the cast reads of an object that it reached
module _ {E : Type 0} {S : Setting} {b : Bool} (n : Name) (kept : b ≡ true → S.Kept n) where
  pub sound_list_length : Sound {E = E} S b (λ w. list_length n w.frame) (λ _. Unit {0})
  unfolding list_length
  sound_list_length =
      record { good = λ w v. tt; same = λ t v w _ _ a. ap (λ o. Ok (last_filled (list_of o))) (a.frame.object n (kept t)) }

  pub sound_next_slot : Sound {E = E} S b (λ w. next_slot n w.frame) (λ _. Unit {0})
  unfolding next_slot
  sound_next_slot = record { good = λ w v. on_any S _; same = λ t v w _ _ a. ap after_length (a.frame.object n (kept t)) }

  pub sound_part_limit : Sound {E = E} S b (λ w. part_limit n w.frame) (λ _. Unit {0})
  unfolding part_limit
  sound_part_limit = record { good = λ w v. tt; same = λ t v w _ _ a. ap (λ o. Ok (most_of o)) (a.frame.object n (kept t)) }

  pub sound_elements : {A : Type 0} {Q : A → Type 0} (k : List E → Result A Fault) → ((xs : List E) → On Q (k xs)) → Sound {E = E} S b (λ w. k (w.elements n)) Q
  sound_elements k q = record { good = λ w v. q (w.elements n); same = λ t v w _ _ a. ap k (a.elements n (kept t)) }

pub kept_by : {S : Setting} {u : Bool} {ks : List ℕ} {x : Cap} (b : Bool) → Known S b u ks x → b ≡ true → S.Kept x.name
kept_by true k t = k.place.near
kept_by false k t = absurd (false≢true t)
