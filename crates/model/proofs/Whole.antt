-- Isolation, of every run.
use Rattle.std.proofs.Common.{◌≡◌, ℕ, zero, suc, ◌≤◌, Bool, true, false, cond, ◌⊎◌, List, [], ◌∷◌, Some, None, Ok, Err, Option, Result, sym, refl, ap, ◌∙◌, subst, inl, inr, arith}
use mathlib.Core.Bool.{false≢true}
use Rattle.model.specs.declared.kinds.Name.{Name}
use Rattle.model.specs.declared.kinds.Cap.{Cap}
use Rattle.model.specs.declared.kinds.Slot.{Slot}
use Rattle.model.specs.declared.kinds.Slot.TheVariants.{Empty, Capability, Template}
use Rattle.model.specs.declared.kinds.Space.{Space}
use Rattle.model.specs.declared.signals.Fault.{Fault}
use Rattle.model.specs.Model.{Body, Task, Frame, World, Rule, Laws}
use Rattle.model.specs.Kalls.{Outcome, Asked, run, serve, plan, answer_of, buffer_of, world_of}
use Rattle.model.specs.Isolation.{If, Of, Has, HasSpace, Holds, Lists, Lives, Sight, holding, listing, LookedAt, AlikeTo, Matches, Match, struck_out, of_cast, Guarded, Always, Isolates}
use Rattle.model.proofs.Opened.{Opened, unmade, held_house, listed_house}
use Rattle.model.proofs.Safe.{Setting, Level, inside, level, Side, Fit, Fits, FitsSpaces, Own, Inv, Alike, AlikeAll, On}
use Rattle.model.proofs.Edits.{alike_sym, all_self, all_trans, edits_inv, edits_alike, edits_quiet}
use Rattle.model.proofs.Each.{Good, sound_plan}

module _ (S : Setting) where
  -- what fits, slot by slot, and back
  fits_has : (v : Level) (c : Cap) (l : List Slot) → Fits S v l → Has (Capability c) l → Side S v c
  fits_has v c [] h k = elim k [ ]
  fits_has v c (s ∷ l) h (inl e) = subst (Fit S v) e h.0
  fits_has v c (s ∷ l) h (inr k) = fits_has v c l h.1 k

  has_fits : (v : Level) (l : List Slot) → ((c : Cap) → Has (Capability c) l → Side S v c) → Fits S v l
  has_fits v [] h = tt
  has_fits v (Empty ∷ l) h = (tt, has_fits v l (λ c k. h c (inr k)))
  has_fits v (Capability x ∷ l) h = (h x (inl refl), has_fits v l (λ c k. h c (inr k)))
  has_fits v (Template x ∷ l) h = (tt, has_fits v l (λ c k. h c (inr k)))

  fits_has_space : (b : Bool) (c : Cap) (l : List Space) → FitsSpaces S b l → HasSpace (Capability c) l → Side S (level b true) c
  fits_has_space b c [] h k = elim k [ ]
  fits_has_space b c (sp ∷ l) h (inl k) = fits_has (level b true) c sp.slots h.0 k
  fits_has_space b c (sp ∷ l) h (inr k) = fits_has_space b c l h.1 k

  has_fits_space : (b : Bool) (l : List Space) → ((c : Cap) → HasSpace (Capability c) l → Side S (level b true) c) → FitsSpaces S b l
  has_fits_space b [] h = tt
  has_fits_space b (sp ∷ l) h = (has_fits (level b true) sp.slots (λ c k. h c (inl k)), has_fits_space b l (λ c k. h c (inr k)))

if_of : {A C : Type 0} (F G : A → Type 0) → ((a : A) → F a → G a → C) → (o : Option A) → If F o → Of G o → C
if_of F G f None h k = elim k [ ]
if_of F G f (Some a) h k = f a h k

of_if : {A : Type 0} (F : A → Type 0) (o : Option A) → ((a : A) → o ≡ Some a → F a) → If F o
of_if F None h = tt
of_if F (Some a) h = h a refl

module _ (S : Setting) where
  held_side : (w : Frame) → Inv S w → (p : ℕ) (x : Cap) (b : Bool) → S.cast p ≡ b → Holds w p (Capability x)
      → Side S (level b true) x
  held_side w i p x b c h =
      if_of _ _ (λ pr f k. fits_has_space S b x pr.spaces f k) (w.process p)
      (subst (λ y. If (λ pr. FitsSpaces S y pr.spaces) (w.process p)) c (i.spaces p)) h

  -- the cast sees only what is kept
  lives_kept : (w : Frame) (n : Name) → Inv S w → S.Kept n ⊎ S.Gone n → Lives w n → S.Kept n
  lives_kept w n i (inl k) l = k
  lives_kept w n i (inr g) l = absurd (rw (i.gone n g) at l)

  sight_kept : (w : Frame) → Inv S w → (n : Name) → Sight S.cast w n → S.Kept n
  sight_kept w i n (holding p x c h l) = lives_kept w x.name i (held_side w i p x true c h) l
  sight_kept w i n (listing m x s h l) =
      lives_kept w x.name i
      (if_of _ _ (λ o f k. fits_has S inside x o.list f k) (w.object m) (i.lists true m (sight_kept w i m s)) h) l

  sight_alike : (v w : Frame) → Inv S v → Alike S v w → (n : Name) → Sight S.cast v n → Sight S.cast w n
  sight_alike v w i a n (holding p x c h l) =
      holding p x c
      (subst (λ y. Of (λ pr. HasSpace (Capability x) pr.spaces) y) (a.process p c) h)
      (subst (Of (λ _. Unit {0})) (a.object x.name (lives_kept v x.name i (held_side v i p x true c h) l)) l)
  sight_alike v w i a n (listing m x s h l) =
      listing m x (sight_alike v w i a m s)
      (subst (λ y. Of (λ o. Has (Capability x) o.list) y) (a.object m (sight_kept v i m s)) h)
      (subst (Of (λ _. Unit {0})) (a.object x.name (sight_kept v i x.name (listing m x s h l))) l)

  alike_to : {E : Type 0} (v w : World E) → Inv S v.frame → Inv S w.frame → AlikeAll S v w → AlikeTo S.cast v w
  alike_to v w i j a =
      record {
        spaces = a.frame.process;
        sight = λ n. (sight_alike v.frame w.frame i a.frame n, sight_alike w.frame v.frame j (alike_sym S a.frame) n);
        objects = λ n s. a.frame.object n (sight_kept v.frame i n s);
        elements = λ n s. a.elements n (sight_kept v.frame i n s);
      }

module _ {E : Type 0} (S : Setting) where
  -- one request
  module _ (r : Asked E) where
    abbrev asks : World E → Result (Outcome E) Fault
    asks w = plan S.rule r.caller r.kall r.buffer w

    serve_inv : (b : Bool) → S.cast r.caller ≡ b → (w : World E) → Inv S w.frame → Inv S (serve S.rule r w).world.frame
    serve_inv b c w i = go (asks w) ((sound_plan S b r.caller c r.kall r.buffer).good w i)
      where
        go : (x : Result (Outcome E) Fault) → On (Good S b r.caller c) x → Inv S (world_of r.caller w x).frame
        go (Ok o) h = edits_inv S b r.caller c o.edits h w i
        go (Err e) h = i

    serve_quiet : S.cast r.caller ≡ false → (w : World E) → Inv S w.frame → AlikeAll S (serve S.rule r w).world w
    serve_quiet c w i = go (asks w) ((sound_plan S false r.caller c r.kall r.buffer).good w i)
      where
        go : (x : Result (Outcome E) Fault) → On (Good S false r.caller c) x → AlikeAll S (world_of r.caller w x) w
        go (Ok o) h = edits_quiet S r.caller c o.edits h w
        go (Err e) h = all_self S w

    module _ (c : S.cast r.caller ≡ true) (v w : World E) (i : Inv S v.frame) (j : Inv S w.frame) (a : AlikeAll S v w) where
      same_plan : asks v ≡ asks w
      same_plan = (sound_plan S true r.caller c r.kall r.buffer).same refl v w i j a

      serve_alike : AlikeAll S (serve S.rule r v).world (serve S.rule r w).world
      serve_alike =
          subst (λ x. AlikeAll S (serve S.rule r v).world (world_of r.caller w x)) same_plan (go (asks v))
        where
          go : (x : Result (Outcome E) Fault) → AlikeAll S (world_of r.caller v x) (world_of r.caller w x)
          go (Ok o) = edits_alike S r.caller c o.edits a
          go (Err e) = a

      serve_matches : Matches S.cast (serve S.rule r v) (serve S.rule r w)
      serve_matches =
          record {
            caller = refl;
            kall = refl;
            answer = ap answer_of same_plan;
            buffer = ap (buffer_of r.buffer) same_plan;
            after = alike_to S _ _ (serve_inv true c v i) (serve_inv true c w j) serve_alike;
          }

  -- every request
  run_match : (rs : List (Asked E)) (v w : World E) → Inv S v.frame → Inv S w.frame → AlikeAll S v w
      → Match S.cast (of_cast S.cast (run S.rule rs v)) (run S.rule (struck_out S.cast rs) w)
  unfolding run
  run_match [] v w i j a = tt
  run_match (r ∷ rs) v w i j a = go (S.cast r.caller) refl (run_match rs)
    where
      go : (c : Bool) → S.cast r.caller ≡ c
          → ((v w : World E) → Inv S v.frame → Inv S w.frame → AlikeAll S v w
          → Match S.cast (of_cast S.cast (run S.rule rs v)) (run S.rule (struck_out S.cast rs) w))
          → Match S.cast
          (cond c (serve S.rule r v ∷ of_cast S.cast (run S.rule rs (serve S.rule r v).world))
          (of_cast S.cast (run S.rule rs (serve S.rule r v).world)))
          (run S.rule (cond c (r ∷ struck_out S.cast rs) (struck_out S.cast rs)) w)
      go true c f = (
        serve_matches r c v w i j a,
        f _ _ (serve_inv r true c v i) (serve_inv r true c w j) (serve_alike r c v w i j a),
      )
      go false c f = f _ w (serve_inv r false c v i) j (all_trans S (serve_quiet r c v i) a)

  run_always : (F : Frame → Type 0) → ((w : Frame) → Inv S w → F w) → (rs : List (Asked E)) (w : World E) → Inv S w.frame
      → Always F (run S.rule rs w)
  unfolding run
  run_always F f [] w i = tt
  run_always F f (r ∷ rs) w i = (f _ (serve_inv r _ refl w i), run_always F f rs _ (serve_inv r _ refl w i))

-- the setting of an opening
module _ (rule : Rule) (laws : Laws rule) (cast : ℕ → Bool) (zero-out : cast 0 ≡ false) (w : Frame) (o : Opened w) (l : LookedAt rule cast w) where
  no_home : (s : ℕ) → s ≡ 0 → cast s ≡ true → ⊥
  no_home s e c = false≢true (sym zero-out ∙ (ap cast (sym e) ∙ c))

  dead : (n : Name) → w.object n ≡ None → Lives w n → ⊥
  dead n e l = rw e at l

  unlisted : (m : Name) (s : Slot) → w.object m ≡ None → Lists w m s → ⊥
  unlisted m s e h = rw e at h

  sight_lives : (n : Name) → Sight cast w n → Lives w n
  sight_lives n (holding p r c h l) = l
  sight_lives n (listing m r s h l) = l

  abbrev setting : Setting
  setting =
      record {
        rule = rule;
        laws = laws;
        cast = cast;
        Kept = λ n. Sight cast w n ⊎ (cast n.share ≡ true);
        Gone = λ n. (n.share ≡ 0) × (w.object n ≡ None);
        made = λ n c. inr c;
        unmade = λ n h c. elim [
          | inl s ↦ dead n (unmade o n h) (sight_lives n s)
          | inr d ↦ false≢true (sym c ∙ d)
        ];
        house = λ n h g. omega (arith, g.0);
      }

  -- a capability of the house: it leads to what lives and is seen, or never leads anywhere
  found : (x : Cap) → x.name.share ≡ 0 → (Lives w x.name → Sight cast w x.name) → Side setting inside x
  found x e f = go (w.object x.name) refl
    where
      go : (y : Option (Body)) → w.object x.name ≡ y → Side setting inside x
      go None q = inr (e, q)
      go (Some y) q = inl (inl (f (rw q tt)))

  held_at_first : (b : Bool) (p : ℕ) → cast p ≡ b → (x : Cap) → Holds w p (Capability x) → Side setting (level b true) x
  held_at_first true p c x h = found x (held_house o p x h) (λ l. holding p x c h l)
  held_at_first false p c x h = elim [
    | inl s ↦ l.held p x c h s
    | inr d ↦ absurd (no_home x.name.share (held_house o p x h) d)
  ]

  listed_at_first : (b : Bool) (m : Name) → Own setting b m → (x : Cap) → Lists w m (Capability x) → Side setting (level b true) x
  listed_at_first true m (inl s) x h = found x (listed_house o m x h) (λ l. listing m x s h l)
  listed_at_first true m (inr d) x h = absurd (unlisted m (Capability x) (unmade o m (some_share m.share d)) h)
    where
      some_share : (s : ℕ) → cast s ≡ true → 1 ≤ s
      some_share zero c = absurd (no_home 0 refl c)
      some_share (suc s) c = omega arith
  listed_at_first false m k x h = elim [
    | inl s ↦ l.listed m x (λ z. k (inl z)) h s
    | inr d ↦ absurd (no_home x.name.share (listed_house o m x h) d)
  ]

  first : Inv setting w
  first =
      record {
        spaces = λ p. spaces_of (w.process p) (cast p) (held_at_first (cast p) p refl);
        lists = λ b m k. lists_of (w.object m) b (listed_at_first b m k);
        gone = λ n g. g.1;
      }
    where
      spaces_of : (y : Option Task) (b : Bool)
          → ((x : Cap) → Of (λ pr. HasSpace (Capability x) pr.spaces) y → Side setting (level b true) x)
          → If (λ pr. FitsSpaces setting b pr.spaces) y
      spaces_of None b h = tt
      spaces_of (Some pr) b h = has_fits_space setting b pr.spaces h

      lists_of : (y : Option (Body)) (b : Bool)
          → ((x : Cap) → Of (λ o. Has (Capability x) o.list) y → Side setting (level b true) x)
          → If (λ o. Fits setting (level b true) o.list) y
      lists_of None b h = tt
      lists_of (Some y) b h = has_fits setting (level b true) y.list h

  guards : (v : Frame) → Inv setting v → Guarded rule cast w v
  guards v i q x c h (inl s) = held_side setting v i q x false c h (inl s)
  guards v i q x c h (inr m) = held_side setting v i q x false c h (inr m.0)

pub isolates : {E : Type 0} (rule : Rule) → Laws rule → (w : World E) → Opened w.frame → (rs : List (Asked E)) → Isolates rule w rs
unfolding Isolates
isolates rule laws w o rs cast z l =
    let i = first rule laws cast z w.frame o l in
    record {
      same = run_match (setting rule laws cast z w.frame o l) rs w w i i (all_self (setting rule laws cast z w.frame o l) w);
      opening = guards rule laws cast z w.frame o l w.frame i;
      guarded = run_always (setting rule laws cast z w.frame o l) (Guarded rule cast w.frame) (guards rule laws cast z w.frame o l) rs w i;
    }
