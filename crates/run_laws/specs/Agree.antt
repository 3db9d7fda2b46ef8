-- Rows, blocks and lookups that agree on some types. Of the other types they have the same ones, with other values.
use Rattle.std.specs.Prelude.{◌≡◌, ℕ, List, [], ◌∷◌}
use Rattle.ent_types.specs.declared.entity.Entity.{Entity}
use Rattle.ent_types.specs.declared.entity.TypeId.{TypeId}
use Rattle.world_model.specs.Row.{Cell, Row}
use Rattle.world_model.specs.World.{Mark, Block}
use Rattle.world_model.specs.Found.{Found}
use Rattle.expr_eval.specs.Values.{OtherRows}

-- two lists, element by element
abbrev pub Both : {A : Type 0} → (A → A → Type 0) → List A → List A → Type 0
Both R [] [] = Unit {0}
Both R [] (y ∷ ys) = ⊥
Both R (x ∷ xs) [] = ⊥
Both R (x ∷ xs) (y ∷ ys) = R x y × Both R xs ys

abbrev pub CellAgree : (ℕ → Type 0) → Cell → Cell → Type 0
CellAgree X c d = (c.type_id ≡ d.type_id) × (X c.type_id → c ≡ d)

abbrev pub MarkAgree : (ℕ → Type 0) → Mark → Mark → Type 0
MarkAgree X m n = (m.type_id ≡ n.type_id) × (X m.type_id → m ≡ n)

abbrev pub CellsAgree : (ℕ → Type 0) → List Cell → List Cell → Type 0
CellsAgree X cs ds = Both (CellAgree X) cs ds

abbrev pub RowAgree : (ℕ → Type 0) → Row → Row → Type 0
RowAgree X r q = (r.entity ≡ q.entity) × (r.dying ≡ q.dying) × CellsAgree X r.cells q.cells

abbrev pub BlockAgree : (ℕ → Type 0) → Block → Block → Type 0
BlockAgree X b c = (b.home ≡ c.home) × (b.order ≡ c.order) × Both (MarkAgree X) b.marks c.marks × Both (RowAgree X) b.rows c.rows

abbrev pub FoundAgree : (ℕ → Type 0) → Found → Found → Type 0
FoundAgree X x y = (x.home ≡ y.home) × RowAgree X x.row y.row

pub record OthersAgree (X : ℕ → Type 0) (o p : OtherRows) : Type 0 where
  pub value : (e : Entity) (ty : TypeId) (i : ℕ) → X ty.0 → o.value e ty i ≡ p.value e ty i
  pub has : (e : Entity) (ty : TypeId) → o.has e ty ≡ p.has e ty
  pub alive : (e : Entity) → o.alive e ≡ p.alive e
