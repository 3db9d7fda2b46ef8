-- Masks that are cut down, type by type.
use Rattle.std.proofs.Common.{◌≡◌, ℕ, ◌<◌, Bool, true, false, not, ◌&&◌, ◌||◌, List, ◌∷◌, refl, sym, ap, ◌∙◌}
use Rattle.std.specs.List.{list_all, list_any}
use Rattle.enable_bits.specs.Masks.{has, places_where}
use Rattle.enable_bits.proofs.MaskLemmas.{has-places_where}

module _ (left cut new : List ℕ) (k : ℕ) (below : k < 128) where
  -- without the rows in which one more type is disabled
  pub cut_disabled : (off : ℕ → Bool) (t : ℕ) (ts : List ℕ) → new ≡ places_where (λ p. has left p && not (has cut p)) → has cut k ≡ off t
      → (has new k && list_all (λ u. not (off u)) ts) ≡ (has left k && list_all (λ u. not (off u)) (t ∷ ts))
  cut_disabled off t ts new_is cut_is =
      ap (λ m. has m k && list_all (λ u. not (off u)) ts) new_is ∙ ap (λ h. h && list_all (λ u. not (off u)) ts) (has-places_where (λ p. has left p && not (has cut p)) k below)
      ∙ ap (λ d. (has left k && not d) && list_all (λ u. not (off u)) ts) cut_is ∙ grouped (has left k) (not (off t)) (list_all (λ u. not (off u)) ts)
    where
      grouped : (a b c : Bool) → ((a && b) && c) ≡ (a && (b && c))
      grouped true b c = refl
      grouped false b c = refl

  -- with those rows alone in which one more type is disabled, where the block has the type
  pub cut_on : (there off : ℕ → Bool) (t : ℕ) (ts : List ℕ) → there t ≡ true → new ≡ places_where (λ p. has left p && has cut p) → has cut k ≡ off t
      → (has new k && not (list_any (λ u. there u && not (off u)) ts)) ≡ (has left k && not (list_any (λ u. there u && not (off u)) (t ∷ ts)))
  cut_on there off t ts is new_is cut_is =
      ap (λ m. has m k && not (list_any (λ u. there u && not (off u)) ts)) new_is
      ∙ ap (λ h. h && not (list_any (λ u. there u && not (off u)) ts)) (has-places_where (λ p. has left p && has cut p) k below)
      ∙ ap (λ d. (has left k && d) && not (list_any (λ u. there u && not (off u)) ts)) cut_is
      ∙ by (has left k) (off t) (list_any (λ u. there u && not (off u)) ts)
      ∙ ap (λ h. has left k && not ((h && not (off t)) || list_any (λ u. there u && not (off u)) ts)) (sym is)
    where
      by : (a o r : Bool) → ((a && o) && not r) ≡ (a && not (not o || r))
      by true true r = refl
      by true false r = refl
      by false o r = refl

-- a type that the block lacks
pub lacks_on : (left : List ℕ) (k : ℕ) (there off : ℕ → Bool) (t : ℕ) (ts : List ℕ) → there t ≡ false
    → (has left k && not (list_any (λ u. there u && not (off u)) ts)) ≡ (has left k && not (list_any (λ u. there u && not (off u)) (t ∷ ts)))
lacks_on left k there off t ts lacks = ap (λ h. has left k && not ((h && not (off t)) || list_any (λ u. there u && not (off u)) ts)) (sym lacks)
