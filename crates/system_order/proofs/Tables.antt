-- Relations as tables of marks.
use Rattle.std.proofs.Common.{◌≡◌, ℕ, ◌+◌, ◌<◌, Bool, true, false, ◌||◌, ◌&&◌, List, [], ◌∷◌, ◌++◌, length, get_or, take, map, ap, ◌∙◌, sym, refl, arith}
use Rattle.std.specs.List.{zip, All}
use Rattle.std.proofs.lemmas.List.{length-map, get_or-map, ext_get_or, take_more}
use Rattle.std.proofs.lemmas.Bool.{and_left}
use Rattle.std.proofs.lemmas.Slice.Zip.{length-zip, get_or-zip}
use Rattle.system_order.specs.Chain.{chained, table_of, through, widened}

-- a row of a table
pub table_row : (leads : ℕ → ℕ → Bool) (siblings : List ℕ) (at : ℕ) (d : List Bool) → at < length siblings → get_or (table_of leads siblings) at d ≡ map (leads (get_or siblings at 0)) siblings
table_row leads siblings at d within = get_or-map (λ first. map (λ last. leads first last) siblings) siblings at 0 d within

-- a mark of a table
pub table_mark : (leads : ℕ → ℕ → Bool) (siblings : List ℕ) (at : ℕ) (d : List Bool) → at < length siblings → get_or (get_or (table_of leads siblings) at d) at false ≡ leads (get_or siblings at 0) (get_or siblings at 0)
table_mark leads siblings at d within =
    ap (λ row. get_or row at false) (table_row leads siblings at d within)
    ∙ get_or-map (leads (get_or siblings at 0)) siblings at 0 false within

-- as many rows as siblings, and as many marks in each
pub length-table_of : (leads : ℕ → ℕ → Bool) (siblings : List ℕ) → length (table_of leads siblings) ≡ length siblings
length-table_of leads siblings = length-map siblings (λ first. map (λ last. leads first last) siblings)

pub length-table_row : (leads : ℕ → ℕ → Bool) (siblings : List ℕ) (at : ℕ) (d : List Bool) → at < length siblings → length (get_or (table_of leads siblings) at d) ≡ length siblings
length-table_row leads siblings at d within =
    ap (λ row. length row) (table_row leads siblings at d within) ∙ length-map siblings (leads (get_or siblings at 0))

pub square_table : (leads : ℕ → ℕ → Bool) (siblings : List ℕ) → All (λ row. length row ≡ length (table_of leads siblings)) (table_of leads siblings)
square_table leads siblings at d within =
    let inside : at < length siblings = omega (arith, within, length-table_of leads siblings) in
    length-table_row leads siblings at d inside ∙ sym (length-table_of leads siblings)

-- the marks of two rows, joined
joined : (b : Bool) (f g : ℕ → Bool) (siblings : List ℕ) → map (λ (marks : Bool × Bool). marks.0 || (b && marks.1)) (zip (map f siblings) (map g siblings)) ≡ map (λ last. f last || (b && g last)) siblings
joined b f g [] = refl
joined b f g (x ∷ xs) = ap (λ marks. (f x || (b && g x)) ∷ marks) (joined b f g xs)

-- a row that is widened
pub widened_row : (f g : ℕ → Bool) (siblings : List ℕ) (at : ℕ) → at < length siblings → widened (map g siblings) at (map f siblings) ≡ map (λ last. f last || (f (get_or siblings at 0) && g last)) siblings
unfolding widened
widened_row f g siblings at within =
    ap (λ b. map (λ (marks : Bool × Bool). marks.0 || (b && marks.1)) (zip (map f siblings) (map g siblings))) (get_or-map f siblings at 0 false within)
    ∙ joined (f (get_or siblings at 0)) f g siblings

widened_rows : (leads : ℕ → ℕ → Bool) (siblings : List ℕ) (at : ℕ) → at < length siblings → (firsts : List ℕ) → map (widened (map (leads (get_or siblings at 0)) siblings) at) (map (λ first. map (λ last. leads first last) siblings) firsts) ≡ map (λ first. map (λ last. through leads (get_or siblings at 0) first last) siblings) firsts
widened_rows leads siblings at within [] = refl
widened_rows leads siblings at within (x ∷ xs) =
    ap (λ row. row ∷ map (widened (map (leads (get_or siblings at 0)) siblings) at) (map (λ first. map (λ last. leads first last) siblings) xs)) (widened_row (leads x) (leads (get_or siblings at 0)) siblings at within)
    ∙ ap (λ rows. map (λ last. through leads (get_or siblings at 0) x last) siblings ∷ rows) (widened_rows leads siblings at within xs)

-- a table whose rows are widened
pub widened_table : (leads : ℕ → ℕ → Bool) (siblings : List ℕ) (at : ℕ) (d : List Bool) → at < length siblings → map (widened (get_or (table_of leads siblings) at d) at) (table_of leads siblings) ≡ table_of (through leads (get_or siblings at 0)) siblings
widened_table leads siblings at d within =
    ap (λ row. map (widened row at) (table_of leads siblings)) (table_row leads siblings at d within)
    ∙ widened_rows leads siblings at within siblings

-- one more sibling that may stand in a chain
pub chained_more : (before : ℕ → ℕ → Bool) (siblings : List ℕ) (sibling : ℕ) → chained before (siblings ++ sibling ∷ []) ≡ through (chained before siblings) sibling
unfolding chained
chained_more before [] sibling = refl
chained_more before (x ∷ xs) sibling = chained_more (through before x) xs sibling

-- a table of chains, after the sibling at a place may stand in them
pub table_more : (before : ℕ → ℕ → Bool) (siblings : List ℕ) (at : ℕ) (d : List Bool) → at < length siblings → map (widened (get_or (table_of (chained before (take at siblings)) siblings) at d) at) (table_of (chained before (take at siblings)) siblings) ≡ table_of (chained before (take (at + 1) siblings)) siblings
table_more before siblings at d within =
    widened_table (chained before (take at siblings)) siblings at d within
    ∙ ap (λ leads. table_of leads siblings) (sym (ap (chained before) (take_more siblings at 0 within) ∙ chained_more before (take at siblings) (get_or siblings at 0)))

-- a row whose marks are those of another one or of a third is widened
pub widened_is : (row more new : List Bool) (at : ℕ) → length more ≡ length row → length new ≡ length row → ((k : ℕ) → k < length row → get_or new k false ≡ (get_or row k false || (get_or row at false && get_or more k false))) → new ≡ widened more at row
unfolding widened
widened_is row more new at alike same marks =
    let f : Bool × Bool → Bool = λ marks. marks.0 || (get_or row at false && marks.1) in
    let long : length (zip row more) ≡ length row = omega (arith, length-zip row more, alike) in
    ext_get_or false new (map f (zip row more)) (same ∙ sym (length-map (zip row more) f ∙ long))
    (λ k within.
    let inside : k < length row = omega (arith, within, same) in
    marks k inside
    ∙ sym (get_or-map f (zip row more) k (false, false) false (omega (arith, inside, long))
    ∙ ap f (get_or-zip row more k (false, false) inside (omega (arith, inside, alike)))))

-- a row that has no mark at the place stays as it is
pub widened_unmarked : (row more : List Bool) (at : ℕ) → length more ≡ length row → get_or row at false ≡ false → row ≡ widened more at row
widened_unmarked row more at alike fails =
    widened_is row more row at alike refl (λ k within. unmarked (get_or row k false) (get_or more k false) (get_or row at false) fails)
  where
    unmarked : (x y b : Bool) → b ≡ false → x ≡ (x || (b && y))
    unmarked true y b fails = refl
    unmarked false y b fails = sym (and_left b y fails)

-- a row that has a mark at the place gets the marks of the other one
pub widened_marked : (row more new : List Bool) (at : ℕ) → length more ≡ length row → length new ≡ length row → get_or row at false ≡ true → ((k : ℕ) → k < length row → get_or new k false ≡ (get_or row k false || get_or more k false)) → new ≡ widened more at row
widened_marked row more new at alike same passes marks =
    widened_is row more new at alike same
    (λ k within. marks k within ∙ ap (λ b. get_or row k false || (b && get_or more k false)) (sym passes))
