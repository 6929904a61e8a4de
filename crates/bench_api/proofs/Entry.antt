-- What entering a text into an empty table comes to.
use Rattle.std.proofs.Common.{◌≡◌, ℕ, ◌<◌, List, [], length, ap, ◌∙◌, subst, arith}
use Rattle.std.proofs.lemmas.List.{length-append}
use Rattle.base.specs.declared.refusal.Refusal.{Refusal}
use Rattle.base.specs.declared.refusal.Refusal.TheVariants.{Short, Garbled, Range, Crowded, Grammar, Nameless, Full, Unheard, Silent, TooBig}
use Rattle.formula.specs.declared.nodes.Nodes.{Nodes}
use Rattle.formula.specs.Entering.{NoRoom, eight_formulas, too_many_nodes, Refused, Added}
use Rattle.formula.specs.Formulas.{by_names, size}
use Rattle.formula.specs.Nodes.{shapes, roots, formula_of}
use Rattle.formula.specs.Trees.{Tree}
use Rattle.formula.specs.Vocabulary.{by_labels}
use Rattle.formula.proofs.Entries.{few_shapes}
use Rattle.bench_api.specs.Marks as marks
use Rattle.bench_api.specs.Marks.{letters, vocabulary, NotEntered, TableOf}

module _ (text : List ℕ) (n : Nodes) (no_nodes : shapes n ≡ []) (no_formulas : roots n ≡ []) where
  no_room : (t : Tree) → NoRoom n t → 48 < size t
  no_room t (eight_formulas e) = absurd (omega (arith, e, ap length no_formulas))
  no_room t (too_many_nodes l) = omega (arith, l, ap length no_nodes)

  refused : (e : Refusal) → Refused text vocabulary n e → NotEntered text
  refused Grammar r = marks.unreadable r
  refused Nameless r = marks.unlisted r.1 r.2
  refused Full r = marks.too_many_nodes r.1 (no_room r.0 r.3)
  refused Short r = absurd r
  refused Garbled r = absurd r
  refused Range r = absurd r
  refused Crowded r = absurd r
  refused Unheard r = absurd r
  refused Silent r = absurd r
  refused TooBig r = absurd r

  pub not_entered : (e : Refusal) (names : List (List ℕ)) → names ≡ letters → Refused text (by_labels names) n e → NotEntered text
  not_entered e names k r = refused e (subst (λ x. Refused text (by_labels x) n e) k r)

  pub entered : (m : Nodes) (f : ℕ) (names : List (List ℕ)) → names ≡ letters → Added text (by_labels names) n m f → TableOf text m
  entered m f names k a =
      let b : Added text vocabulary n m f = subst (λ x. Added text (by_labels x) n m f) k a in
      let nodes : length (shapes m) ≡ size b.tree =
      ap length b.next.nodes_are ∙ length-append (shapes n) b.next.new ∙ omega (arith, ap length no_nodes, b.next.long) in
      let formulas : length (roots m) ≡ 1 =
      ap length b.next.roots_are ∙ length-append (roots n) _ ∙ omega (arith, ap length no_formulas) in
      let first : f ≡ 0 = b.next.number ∙ ap length no_formulas in
      record {
        formula = record { tree = b.tree; is = b.is; listed = b.listed; few = few_shapes m; nodes_are = nodes };
        alone = formulas;
        means = subst (λ g. formula_of m g ≡ by_names vocabulary b.tree) first b.next.decodes;
      }
