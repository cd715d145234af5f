-- A run, one request further.
use Rattle.std.proofs.Common.{◌≡◌, ℕ, zero, suc, ◌+◌, ◌<◌, ◌≤◌, List, [], ◌∷◌, ◌++◌, map, length, get_or, take, drop, set, sym, ap, ◌∙◌, ap₂, add-one, arith}
use Rattle.std.proofs.lemmas.List.{append-nil, drop_all, take_all}
use Rattle.model.specs.declared.kinds.Request.{Request}
use Rattle.model.specs.Model.{World, Rule}
use Rattle.model.specs.Kalls.{serve, run}
use Rattle.run.specs.Play.{View, ask, view, has_buffer, told, played, afterwards}

module _ {E : Type 0} (r : Rule) (q x : Request E) (w w' : World E) (on : w' ≡ (serve r (ask q) w).world) where
  after_suc : (xs : List (Request E)) (i : ℕ) → i < length xs → get_or xs i q ≡ q → afterwards r w' (drop (suc i) (set xs i x)) ≡ afterwards r w (drop i xs)
  unfolding run
  after_suc [] i h e = absurd (omega arith)
  after_suc (y ∷ ys) zero h e =
      ap (λ (v : World E). afterwards r v ys) on ∙ ap (λ (z : Request E). afterwards r (serve r (ask z) w).world ys) (sym e)
  after_suc (y ∷ ys) (suc i) h e = after_suc ys i (omega arith) e

  played_suc : (xs : List (Request E)) (i : ℕ) → i < length xs → get_or xs i q ≡ q → view x ≡ told (serve r (ask q) w) → map view (take (suc i) (set xs i x)) ++ played r w' (drop (suc i) (set xs i x)) ≡ map view (take i xs) ++ played r w (drop i xs)
  unfolding run
  played_suc [] i h e a = absurd (omega arith)
  played_suc (y ∷ ys) zero h e a =
      ap₂ (λ (v : View E) (u : World E). v ∷ played r u ys) a on ∙ ap (λ (z : Request E). told (serve r (ask z) w) ∷ played r (serve r (ask z) w).world ys) (sym e)
  played_suc (y ∷ ys) (suc i) h e a = ap (λ (t : List (View E)). view y ∷ t) (played_suc ys i (omega arith) e a)

  pub after_more : (xs : List (Request E)) (i : ℕ) → i < length xs → get_or xs i q ≡ q → afterwards r w' (drop (i + 1) (set xs i x)) ≡ afterwards r w (drop i xs)
  after_more xs i h e = rw add-one (after_suc xs i h e)

  pub played_more : (xs : List (Request E)) (i : ℕ) → i < length xs → get_or xs i q ≡ q → view x ≡ told (serve r (ask q) w) → map view (take (i + 1) (set xs i x)) ++ played r w' (drop (i + 1) (set xs i x)) ≡ map view (take i xs) ++ played r w (drop i xs)
  played_more xs i h e a = rw add-one (played_suc xs i h e a)

pub given_more : {E : Type 0} (q x : Request E) → has_buffer x ≡ has_buffer q → (xs : List (Request E)) (i : ℕ) → i < length xs → get_or xs i q ≡ q
    → map has_buffer (set xs i x) ≡ map has_buffer xs
given_more q x g [] i h e = absurd (omega arith)
given_more q x g (y ∷ ys) zero h e = ap (λ b. b ∷ map has_buffer ys) (g ∙ ap has_buffer (sym e))
given_more q x g (y ∷ ys) (suc i) h e = ap (λ t. has_buffer y ∷ t) (given_more q x g ys i (omega arith) e)

pub after_end : {E : Type 0} (r : Rule) (w : World E) (xs : List (Request E)) (i : ℕ) → length xs ≤ i → afterwards r w (drop i xs) ≡ w
unfolding run
after_end r w xs i h = ap (afterwards r w) (drop_all i xs h)

pub played_end : {E : Type 0} (r : Rule) (w : World E) (xs : List (Request E)) (i : ℕ) → length xs ≤ i → map view (take i xs) ++ played r w (drop i xs) ≡ map view xs
unfolding run
played_end r w xs i h = ap₂ (λ (t d : List (Request _)). map view t ++ played r w d) (take_all i xs h) (drop_all i xs h) ∙ append-nil (map view xs)
