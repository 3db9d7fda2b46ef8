-- The chains of siblings are the paths among them.
use Rattle.std.proofs.Common.{◌≡◌, ℕ, ◌<◌, suc, zero, Bool, true, ◌&&◌, inl, inr, ◌↔◌, List, [], ◌∷◌, length, get_or, ◌∙◌, subst, arith}
use Rattle.std.specs.List.{All, Contains}
use Rattle.std.proofs.lemmas.Bool.{and_from, and_parts, or_cases, or_left, or_right}
use Rattle.std.proofs.lemmas.List.{get_or_default}
use Rattle.std.proofs.lemmas.List.Elements.{All-cons, All-head, All-nil, All-tail, Contains-append_right, Contains-get_or}
use Rattle.system_order.specs.Chain.{chained, through, HasPath, IsPath}

-- what leads to a sibling leads to whatever that sibling leads to
abbrev pub LeadsOn : (ℕ → ℕ → Bool) → ℕ → Type 0
LeadsOn leads middle = (first last : ℕ) → leads first middle ≡ true → leads middle last ≡ true → leads first last ≡ true

direct : (leads : ℕ → ℕ → Bool) (middle first last : ℕ) → leads first last ≡ true → through leads middle first last ≡ true
direct leads middle first last h = or_left (leads first last) (leads first middle && leads middle last) h

round : (leads : ℕ → ℕ → Bool) (middle first last : ℕ) → leads first middle ≡ true → leads middle last ≡ true → through leads middle first last ≡ true
round leads middle first last h k =
    or_right (leads first last) (leads first middle && leads middle last) (and_from (leads first middle) (leads middle last) h k)

-- a relation through a sibling leads to the sibling, and from it, only where the relation itself does
to_middle : (leads : ℕ → ℕ → Bool) (middle first : ℕ) → through leads middle first middle ≡ true → leads first middle ≡ true
to_middle leads middle first h = elim (or_cases (leads first middle) (leads first middle && leads middle middle) h) [
  | inl straight ↦ straight
  | inr bent ↦ (and_parts (leads first middle) (leads middle middle) bent).0
]

from_middle : (leads : ℕ → ℕ → Bool) (middle last : ℕ) → through leads middle middle last ≡ true → leads middle last ≡ true
from_middle leads middle last h = elim (or_cases (leads middle last) (leads middle middle && leads middle last) h) [
  | inl straight ↦ straight
  | inr bent ↦ (and_parts (leads middle middle) (leads middle last) bent).1
]

leads_on_there : (leads : ℕ → ℕ → Bool) (middle : ℕ) → LeadsOn (through leads middle) middle
leads_on_there leads middle first last h k = round leads middle first last (to_middle leads middle first h) (from_middle leads middle last k)

leads_on_still : (leads : ℕ → ℕ → Bool) (middle other : ℕ) → LeadsOn leads other → LeadsOn (through leads middle) other
leads_on_still leads middle other on first last h k =
    elim (or_cases (leads first other) (leads first middle && leads middle other) h) [
      | inl straight ↦ elim (or_cases (leads other last) (leads other middle && leads middle last) k) [
        | inl straight' ↦ direct leads middle first last (on first last straight straight')
        | inr bent' ↦
            let b = and_parts (leads other middle) (leads middle last) bent' in
            round leads middle first last (on first middle straight b.0) b.1
      ]
      | inr bent ↦
          let a = and_parts (leads first middle) (leads middle other) bent in
          elim (or_cases (leads other last) (leads other middle && leads middle last) k) [
            | inl straight' ↦ round leads middle first last a.0 (on middle last a.1 straight')
            | inr bent' ↦ round leads middle first last a.0 (and_parts (leads other middle) (leads middle last) bent').1
          ]
    ]

chains_on : (siblings : List ℕ) (leads : ℕ → ℕ → Bool) (other : ℕ) → LeadsOn leads other → LeadsOn (chained leads siblings) other
unfolding chained
chains_on [] leads other on = on
chains_on (z ∷ zs) leads other on = chains_on zs (through leads z) other (leads_on_still leads z other on)

-- chains lead on through each sibling
pub chains_on_at : (siblings : List ℕ) (leads : ℕ → ℕ → Bool) (k : ℕ) → k < length siblings → LeadsOn (chained leads siblings) (get_or siblings k 0)
unfolding chained
chains_on_at [] leads k within = absurd (omega arith)
chains_on_at (z ∷ zs) leads zero within = chains_on zs (through leads z) z (leads_on_there leads z)
chains_on_at (z ∷ zs) leads (suc k) within = chains_on_at zs (through leads z) k (omega arith)

-- what precedes a sibling is chained to it
pub chained_direct : (siblings : List ℕ) (leads : ℕ → ℕ → Bool) (first last : ℕ) → leads first last ≡ true → chained leads siblings first last ≡ true
unfolding chained
chained_direct [] leads first last h = h
chained_direct (z ∷ zs) leads first last h = chained_direct zs (through leads z) first last (direct leads z first last h)

-- a path is a chain
chained_path : (siblings : List ℕ) (before : ℕ → ℕ → Bool) (path : List ℕ) (first last : ℕ) → All (Contains siblings) path → IsPath before first path last → chained before siblings first last ≡ true
chained_path siblings before [] first last among links = chained_direct siblings before first last links
chained_path siblings before (next ∷ path) first last among links =
    let here = All-head (Contains siblings) next path among in
    let on : LeadsOn (chained before siblings) next = subst (LeadsOn (chained before siblings)) (at_zero here) (chains_on_at siblings before here.0 here.1) in
    on first last (chained_direct siblings before first next links.0) (chained_path siblings before path next last (All-tail (Contains siblings) next path among) links.1)
  where
    at_zero : (h : Contains siblings next) → get_or siblings h.0 0 ≡ next
    at_zero h = get_or_default siblings h.0 0 next h.1 ∙ h.2

-- a path of a relation through a sibling, with that sibling written out
with_middle : (before : ℕ → ℕ → Bool) (middle : ℕ) (siblings path : List ℕ) (first last : ℕ) → All (Contains siblings) path → IsPath (through before middle) first path last → HasPath before (middle ∷ siblings) first last
with_middle before middle siblings [] first last among link =
    elim (or_cases (before first last) (before first middle && before middle last) link) [
      | inl straight ↦ record { path = []; among = All-nil (Contains (middle ∷ siblings)); links = straight }
      | inr bent ↦ record {
        path = middle ∷ [];
        among = All-cons (Contains (middle ∷ siblings)) middle [] (Contains-get_or (middle ∷ siblings) 0 0 (omega arith)) (All-nil (Contains (middle ∷ siblings)));
        links = and_parts (before first middle) (before middle last) bent;
      }
    ]
with_middle before middle siblings (next ∷ path) first last among links =
    let rest = with_middle before middle siblings path next last (All-tail (Contains siblings) next path among) links.1 in
    let next_in = Contains-append_right (middle ∷ []) siblings next (All-head (Contains siblings) next path among) in
    let longer = All-cons (Contains (middle ∷ siblings)) next rest.path next_in rest.among in
    elim (or_cases (before first next) (before first middle && before middle next) links.0) [
      | inl straight ↦ record { path = next ∷ rest.path; among = longer; links = (straight, rest.links) }
      | inr bent ↦
          let parts = and_parts (before first middle) (before middle next) bent in
          record {
            path = middle ∷ next ∷ rest.path;
            among = All-cons (Contains (middle ∷ siblings)) middle (next ∷ rest.path) (Contains-get_or (middle ∷ siblings) 0 0 (omega arith)) longer;
            links = (parts.0, (parts.1, rest.links));
          }
    ]

-- a chain is a path
path_chained : (siblings : List ℕ) (before : ℕ → ℕ → Bool) (first last : ℕ) → chained before siblings first last ≡ true → HasPath before siblings first last
unfolding chained
path_chained [] before first last h = record { path = []; among = All-nil (Contains []); links = h }
path_chained (z ∷ zs) before first last h =
    let rest = path_chained zs (through before z) first last h in
    with_middle before z zs rest.path first last rest.among rest.links

pub chains_are_paths : (before : ℕ → ℕ → Bool) (siblings : List ℕ) (first last : ℕ) → (chained before siblings first last ≡ true) ↔ HasPath before siblings first last
chains_are_paths before siblings first last = (path_chained siblings before first last, λ h. chained_path siblings before h.path first last h.among h.links)
