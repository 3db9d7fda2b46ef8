-- Entries of chains of distinct items are apart.
use Rattle.std.proofs.Common.{◌≡◌, ℕ, List, [], ◌∷◌, inl, inr, map, sym, ◌∙◌, ap, subst}
use Rattle.world_model.specs.Members.{In, AreDistinct}
use Rattle.world_laws.proofs.Members.{map_in}
use Rattle.run_laws.proofs.Order.{in_flat_map}
use Rattle.command_record.specs.Chains.{ChainState, AreOwn}
use Rattle.playback.specs.Laws.{AreOnce}
use Rattle.playback.specs.Order.{AreApart, all_entries}

-- two members with one number are the same
one_by : {X : Type 0} (number : X → ℕ) (xs : List X) → AreDistinct (map number xs) → (x y : X) → In x xs → In y xs → number x ≡ number y → x ≡ y
one_by number [] two x y i j e = absurd i
one_by number (z ∷ zs) two x y (inl p) (inl q) e = p ∙ sym q
one_by number (z ∷ zs) two x y (inl p) (inr j) e =
    absurd (two.0 (subst (λ n. In n (map number zs)) (sym e ∙ ap number p) (map_in number y zs j)))
one_by number (z ∷ zs) two x y (inr i) (inl q) e =
    absurd (two.0 (subst (λ n. In n (map number zs)) (e ∙ ap number q) (map_in number x zs i)))
one_by number (z ∷ zs) two x y (inr i) (inr j) e = one_by number zs two.1 x y i j e

pub chains_apart : (chains : List ChainState) → AreDistinct (map (λ c. c.item) chains)
    → ((c : ChainState) → In c chains → AreOwn c × AreOnce c.entries) → AreApart (all_entries chains)
chains_apart chains two once x y i j item row number =
    let (c, k, l) = in_flat_map (λ (c : ChainState). c.entries) x chains i in
    let (d, m, n) = in_flat_map (λ (c : ChainState). c.entries) y chains j in
    let (own, alone) = once c k in
    let (owned, others) = once d m in
    let same : c ≡ d = one_by (λ (c : ChainState). c.item) chains two c d k m (sym (own x l) ∙ item ∙ owned y n) in
    alone x y l (subst (λ (b : ChainState). In y b.entries) (sym same) n) row number
