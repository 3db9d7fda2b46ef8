-- What each call of the table asks of the rule, and what it tells.
use Rattle.std.proofs.Common.{◌≡◌, ℕ, ◌+◌, ◌%◌, ◌^◌, ◌<◌, ◌≤◌, ◌⊎◌, inl, inr, false, List, [], ◌∷◌, length, set, refl, sym, ◌∙◌, ap, arith, subst, Option, Some, slice_index, slice_get, length-set}
use Rattle.std.proofs.lemmas.Bool.{cases_lt}
use mathlib.Core.Option.{some, none}
use lib.ListN.{get_elem?}
use Rattle.atomic_table.specs.Table.{State, Me, step, Act, takes, keeps, Valid, stepped, carried_after, rest, Allows, Splits, Joins}
use Rattle.job_claims.specs.declared.seat.View.{View}
use Rattle.job_claims.specs.Views.{spent, after_split, split_off, with_drawn, with_end, joined}
use Rattle.job_claims.specs.Rule.{times, Keeps, IsKept, Draws}
use Rattle.job_claims.proofs.Steps.{Found, found, word_small, ended_keeps, split_keeps, move_keeps, join_keeps}

-- the one word, after a write
word-set : (ws : List ℕ) (x : ℕ) → length ws ≡ 1 → slice_index (set ws 0 x) 0 ≡ x
word-set [] x e = absurd (omega arith)
word-set (w ∷ ws) x e = refl

module _ {T : Type 0} where
  pub split_allowed : (id : ℕ) (v : View T) → 1 < v.weight → Splits IsKept id v (after_split v) (split_off v)
  split_allowed id v weighs s kept at = (kept.0, split_keeps (length s.homes) (slice_index s.words 0) s.homes s.views id v kept.1 at weighs)

  pub move_allowed : (id : ℕ) (v : View T) → Splits IsKept id v spent v
  move_allowed id v s kept at = (kept.0, move_keeps (length s.homes) (slice_index s.words 0) s.homes s.views id v kept.1 at)

  pub join_allowed : (id other : ℕ) (v w : View T) → 0 < v.weight → Joins IsKept id v other w (joined v w) spent
  join_allowed id other v w weighs s kept at apart there = (kept.0, join_keeps (length s.homes) (slice_index s.words 0) s.homes s.views id other v w kept.1 at apart there weighs)

  -- one draw of a seat that isn't ended
  drawing : (slots id : ℕ) (me : Me (Option T) (View T)) → slots < 2 ^ 32 → me.0.ended ≡ false → 0 < me.0.weight → (s : State (Option T) (View T)) → IsKept s
      → length s.homes ≡ slots → get_elem? s.views id ≡ some me.0 → (slice_index s.words 0 < length s.homes) ⊎ (length s.homes ≤ slice_index s.words 0)
      → (w : View T) × (a : Act (Option T)) × Valid s.homes me.1 a × IsKept (stepped s 0 ((slice_index s.words 0 + 1) % 2 ^ 64) id me.1 w a)
      × Draws (step slots 0 1 0 none) me (slice_index s.words 0) (w, carried_after me.1 a)
  drawing slots id me small going weighs s kept count at (inl left) =
      let n : ℕ = length s.homes in
      let word : ℕ = slice_index s.words 0 in
      let f : Found n word s.homes s.views id me.0 = found n word s.homes s.views id me.0 kept.1 at weighs left in
      let near = word_small n word s.homes s.views kept.1 in
      let next : (word + 1) % 2 ^ 64 ≡ word + 1 = omega arith in
      let read : slice_index (set s.words 0 ((word + 1) % 2 ^ 64)) 0 ≡ word + 1 = word-set s.words ((word + 1) % 2 ^ 64) kept.0 ∙ next in
      let homes = set s.homes word none in
      let views = set s.views id (with_drawn me.0 word) in (
        with_drawn me.0 word,
        takes word (Some f.piece),
        f.is_home,
        (
          length-set s.words 0 ((word + 1) % 2 ^ 64) ∙ kept.0,
          subst (λ m. Keeps m (slice_index (set s.words 0 ((word + 1) % 2 ^ 64)) 0) homes views) (sym (length-set s.homes word none))
              (subst (λ m. Keeps n m homes views) (sym read) f.keeps),
        ),
        inl (omega arith, f.is_new, f.has_room, (f.piece, f.is_piece, refl)),
      )
  drawing slots id me small going weighs s kept count at (inr past) =
      let n : ℕ = length s.homes in
      let word : ℕ = slice_index s.words 0 in
      let near = word_small n word s.homes s.views kept.1 in
      let next : (word + 1) % 2 ^ 64 ≡ word + 1 = omega arith in
      let read : slice_index (set s.words 0 ((word + 1) % 2 ^ 64)) 0 ≡ word + 1 = word-set s.words ((word + 1) % 2 ^ 64) kept.0 ∙ next in (
        with_end me.0,
        keeps,
        tt,
        (
          length-set s.words 0 ((word + 1) % 2 ^ 64) ∙ kept.0,
          subst (λ m. Keeps n m s.homes (set s.views id (with_end me.0))) (sym read) (ended_keeps n word s.homes s.views id me.0 kept.1 at weighs going past),
        ),
        inr (omega arith, refl),
      )

  pub draw_allowed : (slots id : ℕ) (me : Me (Option T) (View T)) → slots < 2 ^ 32 → me.0.ended ≡ false → 0 < me.0.weight
      → Allows IsKept slots id me 0 (λ n. (n + 1) % 2 ^ 64) (Draws (step slots 0 1 0 none) me)
  draw_allowed slots id me small going weighs s kept count at fits =
      drawing slots id me small going weighs s kept count at (cases_lt (slice_index s.words 0) (length s.homes))

  -- what a draw found, where a piece was left
  pub record Piece_found (k : ℕ) (me after : Me (Option T) (View T)) : Type 0 where
    pub piece : T
    pub is_piece : slice_get me.0.pieces k ≡ Some piece
    pub is_new : times k me.0.mine ≡ 0
    pub has_room : length me.0.mine < length me.0.pieces
    pub view : after.0 ≡ with_drawn me.0 k
    pub slot : after.1 ≡ (k, Some piece) ∷ rest after.1

  pub found_piece : (slots k : ℕ) (me after : Me (Option T) (View T)) → k < slots → Draws (step slots 0 1 0 none) me k after → Piece_found k me after
  found_piece slots k me after left (inl t) = record {
    piece = t.3.0;
    is_piece = t.3.1;
    is_new = t.1;
    has_room = t.2;
    view = ap (λ m. m.0) t.3.2;
    slot = ap (λ m. m.1) t.3.2 ∙ ap (λ xs. (k, Some t.3.0) ∷ xs) (sym (ap (λ m. rest m.1) t.3.2));
  }
  found_piece slots k me after left (inr t) = absurd (omega (arith, t.0))

  pub found_end : (slots k : ℕ) (me after : Me (Option T) (View T)) → slots ≤ k → Draws (step slots 0 1 0 none) me k after → after ≡ (with_end me.0, me.1)
  found_end slots k me after past (inl t) = absurd (omega (arith, t.0))
  found_end slots k me after past (inr t) = t.1
