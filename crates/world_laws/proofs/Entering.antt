-- What entering makes of the rows of a world: one more.
use Rattle.std.proofs.Common.{◌≡◌, ℕ, ◌+◌, Bool, true, false, ◌&&◌, cond, nat_lt, List, [], ◌∷◌, ◌++◌, length, refl, sym, ap, ◌∙◌, append_assoc}
use Rattle.world_model.specs.Members.{one_if, tally}
use Rattle.world_model.specs.Row.{Row}
use Rattle.world_model.specs.World.{Home, Block}
use Rattle.world_model.specs.Found.{Found, placed_in, placed}
use Rattle.world_model.specs.Enter.{same_home, enter, entered}
use Rattle.world_laws.proofs.Perms.{Perm, follow, perm_self, perm_is, perm_middle, perm_before, perm_tally}
use Rattle.world_laws.proofs.Same.{home_is}

placed_more : (home : Home) (rs : List Row) (r : Row) → placed_in home (rs ++ r ∷ []) ≡ placed_in home rs ++ record { home = home; row = r } ∷ []
placed_more home [] r = refl
placed_more home (q ∷ rs) r = ap (λ (xs : List Found). record { home = home; row = q } ∷ xs) (placed_more home rs r)

pub enter_perm : (capacity now : ℕ) (home : Home) (row : Row) (bs : List Block)
    → Perm Found (placed (enter capacity now home row bs)) (record { home = home; row = row } ∷ placed bs)
unfolding enter
enter_perm capacity now home row [] = perm_self (record { home = home; row = row } ∷ [])
enter_perm capacity now home row (b ∷ bs) =
    by (same_home home b.home) (nat_lt (length b.rows) capacity) (home_is home b.home) (enter_perm capacity now home row bs)
  where
    x : Home → Found
    x h = record { home = h; row = row }

    by : (s t : Bool) → (s ≡ true → home ≡ b.home) → Perm Found (placed (enter capacity now home row bs)) (x home ∷ placed bs)
        → Perm Found (placed (cond (s && t) (entered now row b ∷ bs) (b ∷ enter capacity now home row bs))) (x home ∷ (placed_in b.home b.rows ++ placed bs))
    by true true same rest =
        follow (perm_is (ap (λ xs. xs ++ placed bs) (placed_more b.home b.rows row) ∙ append_assoc (placed_in b.home b.rows) (x b.home ∷ []) (placed bs)))
        (follow (perm_middle (placed_in b.home b.rows) (x b.home) (placed bs)) (perm_is (ap (λ h. x h ∷ (placed_in b.home b.rows ++ placed bs)) (sym (same refl)))))
    by true false same rest = follow (perm_before (placed_in b.home b.rows) rest) (perm_middle (placed_in b.home b.rows) (x home) (placed bs))
    by false t same rest = follow (perm_before (placed_in b.home b.rows) rest) (perm_middle (placed_in b.home b.rows) (x home) (placed bs))

pub enter_tally : (p : Found → Bool) (capacity now : ℕ) (home : Home) (row : Row) (bs : List Block)
    → tally p (placed (enter capacity now home row bs)) ≡ one_if (p (record { home = home; row = row })) + tally p (placed bs)
enter_tally p capacity now home row bs = perm_tally p (enter_perm capacity now home row bs)
