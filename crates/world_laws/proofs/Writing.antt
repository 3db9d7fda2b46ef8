-- The rows of a world after a write: one row is replaced.
use Rattle.std.proofs.Common.{◌≡◌, ℕ, ◌+◌, Bool, true, false, cond, List, [], ◌∷◌, ◌++◌, map, find, Option, Some, None, refl, sym, ap, ap₂, ◌∙◌, arith}
use Rattle.ent_types.specs.declared.entity.Entity.{Entity}
use Rattle.world_model.specs.Members.{one_if, tally}
use Rattle.world_model.specs.Part.{same_entity}
use Rattle.world_model.specs.Row.{Row}
use Rattle.world_model.specs.World.{Home, Block}
use Rattle.world_model.specs.Found.{Found, placed_in, placed}
use Rattle.world_model.specs.Leave.{replaced}
use Rattle.world_model.specs.Write.{rewritten, rewrite}
use Rattle.world_laws.proofs.Members.{map_append}
use Rattle.world_laws.proofs.Same.{entity_is}
use Rattle.world_laws.proofs.Leaving.{is_row, has_is, none_replaced}

abbrev pub put_in : Row → Found → Found
put_in row x = record x { row = cond (same_entity row.entity x.row.entity) row x.row }

pub put_same : (row : Row) (p : Entity → Bool) (x : Found) → p (put_in row x).row.entity ≡ p x.row.entity
put_same row p x = step (same_entity row.entity x.row.entity) (entity_is row.entity x.row.entity)
  where
    step : (b : Bool) → (b ≡ true → row.entity ≡ x.row.entity) → p (cond b row x.row).entity ≡ p x.row.entity
    step true same = ap p (same refl)
    step false same = refl

rows_put : (home : Home) (row : Row) (rows : List Row) → placed_in home (replaced row.entity row rows) ≡ map (put_in row) (placed_in home rows)
rows_put home row [] = refl
rows_put home row (r ∷ rs) = ap (λ (xs : List Found). record { home = home; row = cond (same_entity row.entity r.entity) row r } ∷ xs) (rows_put home row rs)

pub rewrite_placed : (now : ℕ) (types : List ℕ) (row : Row) (bs : List Block) → placed (rewrite now types row bs) ≡ map (put_in row) (placed bs)
unfolding rewrite
rewrite_placed now types row [] = refl
rewrite_placed now types row (b ∷ bs) =
    ap₂ (λ xs ys. xs ++ ys) (here (find (is_row row.entity) b.rows) refl) (rewrite_placed now types row bs)
    ∙ sym (map_append (put_in row) (placed_in b.home b.rows) (placed bs))
  where
    here : (o : Option Row) → find (is_row row.entity) b.rows ≡ o
        → placed_in (rewritten now types row b).home (rewritten now types row b).rows ≡ map (put_in row) (placed_in b.home b.rows)
    here (Some r) is = rw (has_is row.entity b.rows, is) (rows_put b.home row b.rows)
    here None is = rw (has_is row.entity b.rows, is) (ap (placed_in b.home) (sym (none_replaced row.entity row b.rows (no_row b.rows is))) ∙ rows_put b.home row b.rows)
      where
        no_row : (rows : List Row) → find (is_row row.entity) rows ≡ None → tally (is_row row.entity) rows ≡ 0
        no_row [] is = refl
        no_row (r ∷ rs) is = step (is_row row.entity r) is (no_row rs)
          where
            step : (t : Bool) → cond t (Some r) (find (is_row row.entity) rs) ≡ None → (find (is_row row.entity) rs ≡ None → tally (is_row row.entity) rs ≡ 0)
                → one_if t + tally (is_row row.entity) rs ≡ 0
            step true is rest = absurd (cc)
            step false is rest = let h = rest is in omega arith
