-- Formulas as nodes, which are written past others, children first.
-- Trees have like names, so theirs stand after `tree`.
use Rattle.std.specs.Prelude.{ℕ, ◌-◌, List, [], ◌∷◌, ◌++◌, map, length, Some, None, Option, nat_lt, if◌then◌else◌}
use Rattle.std.specs.Option.{option_map}
use Rattle.formula.specs.declared.draft.Draft.{Draft}
use Rattle.formula.specs.Choosing.{set_of}
use Rattle.formula.specs.Shapes.{Shape, true_node, false_node, not_node, and_node, or_node, short_node, path_node, shape}
use Rattle.formula.specs.Trees as tree
use Rattle.formula.specs.Trees.{Tree}
use Rattle.formula.specs.Vocabulary.{Vocabulary}

-- nodes as far as they are written, or none once one found no room
abbrev pub DraftState : Type 0
DraftState = Option (List Shape)

abbrev pub drafted : Draft → DraftState
drafted d = option_map (λ n. map shape n) d.nodes

abbrev pub push : DraftState → Shape → DraftState
push None x = None
push (Some xs) x = if nat_lt (length xs) 48 then Some (xs ++ x ∷ []) else None

-- the number of the last node
abbrev pub top : DraftState → ℕ
top None = 0
top (Some xs) = length xs - 1

-- the nodes of a tree, written after others
abbrev pub lay : Vocabulary → Tree → DraftState → DraftState
lay v tree.TRUE s = push s true_node
lay v tree.FALSE s = push s false_node
lay v (tree.NOT t) s = push (lay v t s) (not_node (top (lay v t s)))
lay v (tree.AND t u) s =
    let left = lay v t s in
    let right = lay v u (lay v t s) in
    push right (and_node (top left) (top right))
lay v (tree.OR t u) s =
    let left = lay v t s in
    let right = lay v u (lay v t s) in
    push right (or_node (top left) (top right))
lay v (tree.short o c t) s = push (lay v t s) (short_node o (set_of v.labels c) (top (lay v t s)))
lay v (tree.path q l c t d u) s =
    let left = lay v t s in
    let right = lay v u (lay v t s) in
    push right (path_node q l (set_of v.labels c) (top left) (set_of v.labels d) (top right))
