-- Each kall is sound.
use Rattle.std.proofs.Common.{◌≡◌, ℕ, ◌≤◌, Bool, true, false, cond, T, eqb, List, [], ◌∷◌, length, pos, None, Ok, Err, vec_items, Option, Result, ap, inl}
use Rattle.model.specs.declared.kinds.Name.{Name}
use Rattle.model.specs.declared.kinds.Slot.{Slot}
use Rattle.model.specs.declared.kinds.Change.{Change}
use Rattle.model.specs.declared.kinds.Change.TheVariants.{Moved, Stored}
use Rattle.model.specs.declared.kinds.Kall.{Kall}
use Rattle.model.specs.declared.kinds.Kall.TheVariants.{Lenth, Clenth, Dlenth, Getdata, Load, Pass, Take, Store, Append, Passappend, Delete, Interchange, Data, Univ, Putdata, Addata, Erase}
use Rattle.model.specs.declared.signals.Fault.{Fault}
use Rattle.model.specs.Model.{World, mdfyrts}
use Rattle.model.specs.Plan.{Plan, after}
use Rattle.model.specs.Kalls.{
  Edit,
  changed,
  Plain,
  Outcome,
  plain,
  block,
  copied,
  read_at,
  kall_lenth,
  kall_clenth,
  kall_dlenth,
  kall_getdata,
  kall_load,
  is_just,
  kall_pass,
  kall_take,
  kall_store,
  appended,
  room_at,
  carried,
  fetched,
  appending,
  kall_delete,
  kall_interchange,
  plan,
  fill,
  making,
  write_at,
  overwritten,
  lengthened,
  kall_putdata,
  kall_addata,
  kall_erase,
}
use Rattle.model.proofs.Safe.{Setting, level, Fit, OwnAt, On, Sound, bind, pure, branch, weaken, Side, Own}
use Rattle.model.proofs.Views.{
  here,
  kept_by,
  owned_by,
  fit_loaded,
  fit_taken,
  fit_moved,
  fit_stored,
  sound_next_slot,
  sound_runs,
  sound_enter,
  sound_length,
  sound_list_length,
  sound_elements,
  sound_object_at,
  sound_held,
  sound_vacant,
  sound_walk,
  Stands,
  asks,
  on_any,
  sound_new_object,
  sound_part_limit,
}
use Rattle.model.proofs.Edits.{AdmitsAll, own_new}

-- a capability for what the caller makes
new_side : (S : Setting) (b : Bool) (p k r : ℕ) → S.cast p ≡ b → 1 ≤ p
    → Side S (level b true) (record { name = record { share = p; number = k }; rights = r })
new_side S true p k r c h = inl (own_new S true p k c h)
new_side S false p k r c h = λ q. absurd (own_new S false p k c h q)

module _ {E : Type 0} (S : Setting) (b : Bool) (p : ℕ) (c : S.cast p ≡ b) where
  -- what each kall comes to: its edits are the caller's to make
  abbrev GoodPlain : Plain E → Type 0
  GoodPlain o = AdmitsAll S b p o.edits

  abbrev pub Good : Outcome E → Type 0
  Good o = AdmitsAll S b p o.edits

  plainly : {m : Plan (World E) (Plain E)} → Sound S b m GoodPlain → Sound S b (λ w. plain (m w)) Good
  plainly {m} h = record { good = λ w i. go (m w) (h.good w i); same = λ t v w i j a. ap plain (h.same t v w i j a) }
    where
      go : (x : Result (Plain E) Fault) → On GoodPlain x → On Good (plain x)
      go (Ok o) q = q
      go (Err e) q = tt

  sound_read_at : (k : ℕ) (path : List ℕ) → Sound {E = E} S b (λ w. read_at S.rule p k path w.frame) (λ x. b ≡ true → S.Kept x.name)
  sound_read_at k path =
      bind (sound_enter p c _ _) λ _ _.
      bind (sound_walk p c _ _ path) λ t st.
      weaken (sound_object_at p c _ _ _ st.place) λ x h. kept_by b h

  sound_lenth : Sound {E = E} S b (λ w. kall_lenth S.rule p w.frame) GoodPlain
  sound_lenth =
      bind (sound_runs p c) λ _ _.
      bind (sound_length p c) λ n _.
      pure (Ok _) tt

  sound_clenth : (path : List ℕ) → Sound {E = E} S b (λ w. kall_clenth S.rule p path w.frame) GoodPlain
  sound_clenth path =
      bind (sound_read_at _ path) λ x k.
      bind (sound_list_length x.name k) λ n _.
      pure (Ok _) tt

  sound_dlenth : (path : List ℕ) → Sound {E = E} S b (kall_dlenth S.rule p path) GoodPlain
  sound_dlenth path =
      bind (sound_read_at _ path) λ x k.
      sound_elements x.name k (λ xs. Ok (record { value = pos (length xs); edits = [] })) (λ xs. tt)

  sound_getdata : (path : List ℕ) (disp knt : ℕ) (xs : List E) → Sound {E = E} S b (kall_getdata S.rule p path disp knt xs) Good
  sound_getdata path disp knt xs =
      bind (sound_read_at _ path) λ x k.
      sound_elements x.name k (λ part. after (block disp knt (length xs) part) (λ ys. Ok (copied xs ys))) (λ part. harmless (block disp knt (length xs) part))
    where
      harmless : (r : Result (List E) Fault) → On Good (after r (λ ys. Ok (copied xs ys)))
      harmless (Ok ys) = tt
      harmless (Err e) = tt

  sound_fetched : (ks ls rs : List ℕ) (new : ℕ) (path : List ℕ)
      → Sound {E = E} S b (λ w. fetched S.rule p ks ls rs new path w.frame) (λ a. Stands S b ks ls a.1.site.holder a.1.clear × Fit S (level b a.1.clear) a.0)
  sound_fetched ks ls rs new path =
      bind (sound_enter p c _ _) λ _ _.
      bind (sound_vacant p c _ _ here) λ _ _.
      bind (sound_walk p c _ _ path) λ t k.
      bind (sound_held p c _ _ _ k.place) λ s f.
      pure (Ok _) (k, f)

  sound_carried : (ks path : List ℕ) (cur : ℕ)
      → Sound {E = E} S b (λ w. carried S.rule p ks path cur w.frame) (λ a. OwnAt S b a.1.holder × Fit S (level b true) a.0)
  sound_carried ks path cur =
      bind (sound_held p c _ _ _ here) λ s f.
      bind (sound_walk p c _ _ path) λ t k.
      bind (sound_vacant p c _ _ k.place) λ _ _.
      pure (Ok _) (k.own tt tt, f)

  sound_load : (new : ℕ) (path : List ℕ) → Sound {E = E} S b (λ w. kall_load S.rule p new path w.frame) GoodPlain
  sound_load new path =
      bind (sound_fetched _ _ _ new path) λ a h.
      pure (Ok _) ((tt, fit_loaded S b a.1.clear a.0 h.1), tt)

  sound_pass : (path : List ℕ) (cur : ℕ) (mask : Option ℕ) → Sound {E = E} S b (λ w. kall_pass S.rule p path cur mask w.frame) GoodPlain
  sound_pass path cur mask =
      bind (sound_enter p c _ _) λ _ _.
      bind (sound_carried _ path cur) λ a h.
      pure (Ok _) ((h.0, fit_moved S (level b true) mask a.0 h.1), ((tt, tt), tt))

  sound_take : (new : ℕ) (path : List ℕ) → Sound {E = E} S b (λ w. kall_take S.rule p new path w.frame) GoodPlain
  sound_take new path =
      bind (sound_fetched _ _ _ new path) λ a h.
      pure (Ok _) ((tt, fit_taken S b a.1.clear a.0 h.1), ((h.0.own tt tt, tt), tt))

  sound_store : (path : List ℕ) (cur : ℕ) (mask : Option ℕ) → Sound {E = E} S b (λ w. kall_store S.rule p path cur mask w.frame) GoodPlain
  sound_store path cur mask =
      bind (sound_enter p c _ _) λ _ _.
      branch (is_just cur path)
      (bind (sound_held p c _ _ _ here) λ s f.
      pure (Ok _) ((tt, fit_moved S (level b true) mask s f), tt))
      (bind (sound_carried _ path cur) λ a h.
      pure (Ok _) ((h.0, fit_stored S (level b true) mask a.0 h.1), tt))

  sound_appended : (ks path : List ℕ) (cur : ℕ) (mask : Option ℕ)
      → Sound {E = E} S b (λ w. appended S.rule p ks path cur mask w.frame) (λ a. OwnAt S b a.1.holder × Fit S (level b true) a.0)
  sound_appended ks path cur mask =
      bind (sound_enter p c _ _) λ _ _.
      bind (sound_held p c _ _ _ here) λ s f.
      bind (sound_walk p c _ _ path) λ t k.
      bind (sound_object_at p c _ _ _ k.place) λ x h.
      bind (sound_next_slot x.name (kept_by b h)) λ i _.
      pure (Ok _) (owned_by k h tt tt tt, f)

  sound_appending : (ks : List ℕ) (ch : Change) (es : List (Edit E)) (path : List ℕ) (cur : ℕ) (mask : Option ℕ)
      → ((s : Slot) → Fit S (level b true) s → Fit S (level b true) (changed S.rule ch s)) → AdmitsAll S b p es
      → Sound {E = E} S b (λ w. appending S.rule p ks ch es path cur mask w.frame) GoodPlain
  sound_appending ks ch es path cur mask fit also =
      bind (sound_appended ks path cur mask) λ a h.
      pure (Ok _) ((h.0, fit a.0 h.1), also)

  sound_delete : (path : List ℕ) → Sound {E = E} S b (λ w. kall_delete S.rule p path w.frame) GoodPlain
  sound_delete path =
      bind (sound_enter p c _ _) λ _ _.
      bind (sound_walk p c _ _ path) λ t k.
      bind (sound_held p c _ _ _ k.place) λ _ _.
      pure (Ok _) ((k.own tt tt, tt), tt)

  sound_interchange : (path : List ℕ) (cur : ℕ) (mask : Option ℕ) → Sound {E = E} S b (λ w. kall_interchange S.rule p path cur mask w.frame) GoodPlain
  sound_interchange path cur mask =
      bind (sound_enter p c _ _) λ _ _.
      bind (sound_held p c _ _ _ here) λ s f.
      bind (sound_walk p c _ _ path) λ t k.
      bind (sound_held p c _ _ _ k.place) λ r h.
      pure (Ok _) ((tt, fit_taken S b t.clear r h), ((k.own tt tt, fit_moved S (level b true) mask s f), tt))

  sound_room_at : (path : List ℕ) (mask : Option ℕ) → Sound {E = E} S b (λ w. room_at S.rule p path mask w.frame) (λ s. 1 ≤ p × OwnAt S b s.holder)
  sound_room_at path mask =
      bind (sound_enter p c _ _) λ _ h.
      bind (sound_walk p c _ _ path) λ t k.
      bind (sound_vacant p c _ _ k.place) λ _ _.
      pure (Ok _) (h, k.own tt tt)

  sound_making : (kind : ℕ) (path : List ℕ) (mask : Option ℕ) (given : Result (List E) Fault) → Sound {E = E} S b (λ w. making S.rule p kind path mask given w.frame) GoodPlain
  sound_making kind path mask given =
      bind (sound_room_at path mask) λ s h.
      bind {Q = λ _. Unit {0}} (pure given (on_any S _)) λ xs _.
      bind (sound_new_object p c xs) λ n _.
      pure (Ok _) (h.0, ((h.1, new_side S b p n _ c h.0), tt))

  sound_write_at : (k : ℕ) (path : List ℕ) → Sound {E = E} S b (λ w. write_at S.rule p k path w.frame) (λ x. (b ≡ true → S.Kept x.name) × Own S b x.name)
  sound_write_at k path =
      bind (sound_enter p c _ _) λ _ _.
      bind (sound_walk p c _ _ path) λ t st.
      weaken (sound_object_at p c _ _ _ st.place) λ x h. (kept_by b h, owned_by st h tt tt (modify k))
    where
      modify : (k : ℕ) → T (asks mdfyrts (k ∷ mdfyrts ∷ []))
      modify k = go (eqb k mdfyrts)
        where
          go : (x : Bool) → T (cond x true true)
          go true = tt
          go false = tt

  sound_filling : (n : Name) (k : List E → Result (List E) Fault) → (b ≡ true → S.Kept n) → Own S b n
      → Sound {E = E} S b (λ w. after (k (w.elements n)) (λ ys. Ok (record { value = pos 0; edits = fill n ys ∷ [] }))) GoodPlain
  sound_filling n k kept own =
      sound_elements n kept (λ part. after (k part) (λ ys. Ok (record { value = pos 0; edits = fill n ys ∷ [] }))) (λ part. fine (k part))
    where
      fine : (r : Result (List E) Fault) → On GoodPlain (after r (λ ys. Ok (record { value = pos 0; edits = fill n ys ∷ [] })))
      fine (Ok ys) = (own, tt)
      fine (Err e) = tt

  sound_putdata : (path : List ℕ) (disp knt : ℕ) (xs : List E) → Sound {E = E} S b (kall_putdata S.rule p path disp knt xs) GoodPlain
  sound_putdata path disp knt xs =
      bind (sound_write_at _ path) λ x h.
      sound_filling x.name (overwritten disp knt xs) h.0 h.1

  sound_addata : (path : List ℕ) (knt : ℕ) (xs : List E) → Sound {E = E} S b (kall_addata S.rule p path knt xs) GoodPlain
  sound_addata path knt xs =
      bind (sound_write_at _ path) λ x h.
      bind (sound_part_limit x.name h.0) λ most _.
      sound_filling x.name (lengthened knt most xs) h.0 h.1

  sound_erase : (path : List ℕ) → Sound {E = E} S b (λ w. kall_erase S.rule p path w.frame) GoodPlain
  sound_erase path =
      bind (sound_write_at _ path) λ x h.
      pure (Ok _) (h.1, tt)

  pub sound_plan : (k : Kall) (xs : List E) → Sound {E = E} S b (plan S.rule p k xs) Good
  sound_plan Lenth xs = plainly sound_lenth
  sound_plan (Clenth path) xs = plainly (sound_clenth (vec_items path))
  sound_plan (Dlenth path) xs = plainly (sound_dlenth (vec_items path))
  sound_plan (Getdata k) xs = sound_getdata (vec_items k.path) k.disp k.knt xs
  sound_plan (Load k) xs = plainly (sound_load k.new (vec_items k.path))
  sound_plan (Pass k) xs = plainly (sound_pass (vec_items k.path) k.cur k.mask)
  sound_plan (Take k) xs = plainly (sound_take k.new (vec_items k.path))
  sound_plan (Store k) xs = plainly (sound_store (vec_items k.path) k.cur k.mask)
  sound_plan (Append k) xs = plainly (sound_appending _ (Stored k.mask) [] (vec_items k.path) k.cur k.mask (fit_stored S (level b true) k.mask) tt)
  sound_plan (Passappend k) xs = plainly (sound_appending _ (Moved k.mask) _ (vec_items k.path) k.cur k.mask (fit_moved S (level b true) k.mask) ((tt, tt), tt))
  sound_plan (Delete path) xs = plainly (sound_delete (vec_items path))
  sound_plan (Interchange k) xs = plainly (sound_interchange (vec_items k.path) k.cur k.mask)
  sound_plan (Data path knt mask) xs = plainly (sound_making 1 (vec_items path) mask _)
  sound_plan (Univ path) xs = plainly (sound_making 2 (vec_items path) None (Ok []))
  sound_plan (Putdata k) xs = plainly (sound_putdata (vec_items k.path) k.disp k.knt xs)
  sound_plan (Addata path knt) xs = plainly (sound_addata (vec_items path) knt xs)
  sound_plan (Erase path) xs = plainly (sound_erase (vec_items path))
