use Rattle.std.proofs.Common.{◌<◌, length, None, Some, sym, ap, ◌∙◌, subst, arith}
use Rattle.std.proofs.lemmas.List.{length-map, get_or_read}
use Rattle.formula.specs.declared.node.Node.{Node}
use Rattle.formula.specs.declared.node.Node.TheVariants.{True}
use Rattle.formula.specs.Shapes.{shape}
use Rattle.formula.proofs.Entries.{few_shapes, root_within}
use Rattle.search.specs.Finding.{held}
use Rattle.paths.specs.Asking.{asked}
use Rattle.paths.specs.Cores.{ReadsAs}
use Rattle.paths.proofs.Answering.{none_found, answered}
use Rattle.paths.proofs.question.PathQuestion.find.Goals as goal

pub core_of-sheet-requires-clause-within : goal.core_of-sheet-requires-clause-within
core_of-sheet-requires-clause-within g c =
    let s = c.in-Some.ensures in let n = c.args.self.now.nodes.now in
    omega (arith, s.2, root_within n c.args.self.now.formula s.0, ap length c.as_slice-nodes.ensures, length-map c.as_slice-nodes.result.now shape)

pub bounds-nodes-sheet : goal.bounds-nodes-sheet
bounds-nodes-sheet g c =
    let s = c.in-Some.ensures in let n = c.args.self.now.nodes.now in let k = c.core_of-sheet.ensures in
    omega (arith, k.last, s.2, root_within n c.args.self.now.formula s.0, ap length c.as_slice-nodes.ensures, length-map c.as_slice-nodes.result.now shape)

pub offset_bounds-nodes-sheet : goal.offset_bounds-nodes-sheet
offset_bounds-nodes-sheet g c =
    let s = c.in-Some.ensures in let n = c.args.self.now.nodes.now in let k = c.core_of-sheet.ensures in
    omega (arith, k.last, s.2, root_within n c.args.self.now.formula s.0, few_shapes n)

pub returns-in_default-operator_of : goal.returns-in_default-operator_of
returns-in_default-operator_of g c =
    let q = c.args.self.now in let s = c.in-Some.ensures in let k = c.core_of-sheet.ensures in let n = q.nodes.now in
    let Q = asked g.W.Weight.scale g.M.TransitionSystem.meaning g.S.Shelf.sheets q in
    let xs = c.as_slice-nodes.result.now in
    let low : c.core_of-sheet.result < length xs =
    omega (arith, k.last, s.2, root_within n q.formula s.0, ap length c.as_slice-nodes.ensures, length-map xs shape) in
    none_found Q (sym c.covers.ensures ∙ c.if-covers-states.false ∙ c.states.ensures, s.0) c.in-Some.span xs c.as_slice-nodes.ensures s.1 s.2
    c.core_of-sheet.result k.first k.last (omega (arith, s.2, root_within n q.formula s.0, ap length c.as_slice-nodes.ensures, length-map xs shape)) k.core
    (held c.args.lists.now) (held c.args.lists.now) c.in_default-refusal.ensures
    (subst (λ (x : Node). ReadsAs x None) (get_or_read xs c.core_of-sheet.result c.index-nodes-sheet.result low c.index-nodes-sheet.is True) c.in_default-operator_of.ensures) k.no_not

pub returns : goal.returns
returns g c =
    let q = c.args.self.now in let s = c.in-Some.ensures in let k = c.core_of-sheet.ensures in let n = q.nodes.now in
    let Q = asked g.W.Weight.scale g.M.TransitionSystem.meaning g.S.Shelf.sheets q in
    let xs = c.as_slice-nodes.result.now in
    let low : c.core_of-sheet.result < length xs =
    omega (arith, k.last, s.2, root_within n q.formula s.0, ap length c.as_slice-nodes.ensures, length-map xs shape) in
    answered Q (sym c.covers.ensures ∙ c.if-covers-states.false ∙ c.states.ensures, s.0) c.in-Some.span xs c.as_slice-nodes.ensures s.1 s.2
    c.core_of-sheet.result k.first k.last (omega (arith, s.2, root_within n q.formula s.0, ap length c.as_slice-nodes.ensures, length-map xs shape)) k.core
    (held c.args.lists.now) (held c.find.new.lists) c.in_default-refusal.ensures c.in-Some-operator_of.path
    (subst (λ (x : Node). ReadsAs x (Some c.in-Some-operator_of.path)) (get_or_read xs c.core_of-sheet.result c.index-nodes-sheet.result low c.index-nodes-sheet.is True) c.in-Some-operator_of.ensures)
    c.find.result c.find.ensures
