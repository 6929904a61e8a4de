-- From the tokens of a text to what entering it answers.
use Rattle.std.proofs.Common.{◌≡◌, ℕ, suc, ◌+◌, ◌-◌, ◌*◌, ◌<◌, ◌≤◌, true, false, eqb, ◌⊎◌, List, [], ◌∷◌, ◌++◌, map, length, is_some, IsSome, IfSome, ◌↔◌, Some, None, Ok, Err, Option, Result, sym, refl, ap, ◌∙◌, subst, inl, inr, arith}
use Rattle.std.proofs.lemmas.List.{length-map}
use Rattle.std.proofs.lemmas.List.Elements.{All-contains}
use Rattle.std.proofs.lemmas.List.Sums.{AllPass-from_list_all}
use Rattle.std.proofs.lemmas.Bool.{cases_lt, eqb-true, false≢true}
use Rattle.std.proofs.lemmas.Option.{same_Some}
use Rattle.std.specs.Option.{ok_or}
use Rattle.base.specs.Listing.{action_of}
use Rattle.base.specs.declared.refusal.Refusal.{Refusal}
use Rattle.base.specs.declared.refusal.Refusal.TheVariants.{Grammar, Nameless, Full}
use Rattle.formula.specs.declared.nodes.Nodes.{Nodes}
use Rattle.formula.specs.Checking.{is_listed, all_listed, Whole, ChecksTokens, Checks}
use Rattle.formula.specs.Entering.{AllListed, Unlisted, NoRoom, eight_formulas, too_many_nodes, OneMore, IsFormula, Unreadable, no_formula}
use Rattle.formula.specs.Laying.{DraftState, lay}
use Rattle.formula.specs.Nodes.{shapes, roots, root}
use Rattle.formula.specs.Shapes.{Shape, shape, formula_at}
use Rattle.formula.specs.Tables.{root_of, Extended}
use Rattle.formula.specs.Reading.{Reads, OrLevel, formula_rules, whole_at, tree_of}
use Rattle.formula.specs.declared.token.Token.{Token}
use Rattle.formula.specs.Tokens.{Tok, symbol, name, tok, tokens_of}
use Rattle.formula.specs.Trees.{Tree}
use Rattle.formula.specs.Vocabulary.{Vocabulary}
use Rattle.formula.proofs.Complete.{tree_in}
use Rattle.formula.proofs.Decoding.{Put, Over, laid, earlier, some_nodes}
use Rattle.formula.proofs.Sound.{tree_out}
use Rattle.formula.proofs.Standing.{within, root_kept, root_new}

-- the tokens as a whole
pub tree-none : (ts : List Tok) → Reads formula_rules OrLevel ts None → tree_of ts ≡ None
unfolding tree_of
tree-none ts a = ap whole_at (a (3 * length ts + 4) (omega arith))

pub tree-more : (ts : List Tok) (rest : List Token) (t : Tree) → Reads formula_rules OrLevel ts (Some (t, map tok rest)) → false ≡ eqb (length rest) 0 → tree_of ts ≡ None
unfolding tree_of
tree-more ts [] t a h = absurd (false≢true h)
tree-more ts (x ∷ rest) t a h = ap whole_at (a (3 * length ts + 4) (omega arith))

pub tree_some : (ts : List Tok) (rest : List Token) (t : Tree) → Reads formula_rules OrLevel ts (Some (t, map tok rest)) → true ≡ eqb (length rest) 0 → tree_of ts ≡ Some t
unfolding tree_of
tree_some ts [] t a h = ap whole_at (a (3 * length ts + 4) (omega arith))
tree_some ts (x ∷ rest) t a h = let k = eqb-true (length (x ∷ rest)) 0 (sym h) in absurd (omega (arith, k))

-- the names among the tokens
module _ (v : Vocabulary) where
  pub listed : (ts : List Tok) → true ≡ all_listed v ts → AllListed v ts
  listed ts h w c = All-contains (λ x. is_listed v x ≡ true) ts (name w) (AllPass-from_list_all (is_listed v) ts (sym h)) c

  past : (x : Tok) (ts : List Tok) → Unlisted v ts → Unlisted v (x ∷ ts)
  past x ts u = (u.0, (suc u.1.0, omega (arith, u.1.1), u.1.2), u.2)

  pub unlisted : (ts : List Tok) → false ≡ all_listed v ts → Unlisted v ts
  unlisted [] h = absurd (false≢true h)
  unlisted (symbol m ∷ ts) h = past (symbol m) ts (unlisted ts h)
  unlisted (name w ∷ ts) h = at (action_of w v.labels) refl (unlisted ts)
    where
      at : (o : Option ℕ) → action_of w v.labels ≡ o → (false ≡ all_listed v ts → Unlisted v ts) → Unlisted v (name w ∷ ts)
      at None e go = (w, (0, omega arith, refl), e)
      at (Some a) e go =
          let k : is_some (action_of w v.labels) ≡ true = ap is_some e in
          past (name w) ts (go (let z : false ≡ all_listed v (name w ∷ ts) = h in rw k at z))

-- there are 48 nodes and eight formulas at most
pub few_shapes : (n : Nodes) → length (shapes n) ≤ 48
few_shapes n = omega (arith, length-map n.nodes shape, n.few)

pub few_roots : (n : Nodes) → length (roots n) ≤ 8
few_roots n = n.few_roots

-- a root is a node
pub root_within : (n : Nodes) (f : ℕ) → f < length (roots n) → root n f < length (shapes n)
root_within n f h = within (roots n) (shapes n) n.ascending n.ends f h

-- a tree that was laid past a table's nodes
module _ (v : Vocabulary) (t : Tree) (n : Nodes) where
  pub no_room : lay v t (Some (shapes n)) ≡ None → NoRoom n t
  no_room e = at (laid v t (shapes n) (few_shapes n))
    where
      at : Put v t (shapes n) ⊎ Over v t (shapes n) → NoRoom n t
      at (inl p) = let q = sym e ∙ p.is in cc
      at (inr o) = too_many_nodes o.no_room

  module _ (ys : List Shape) (is : lay v t (Some (shapes n)) ≡ Some ys) where
    put : Put v t (shapes n)
    put = at (laid v t (shapes n) (few_shapes n))
      where
        at : Put v t (shapes n) ⊎ Over v t (shapes n) → Put v t (shapes n)
        at (inl p) = p
        at (inr o) = let q = sym is ∙ o.is in cc

    grown : ys ≡ shapes n ++ put.new
    grown = same_Some _ _ (sym is ∙ put.is)

    pub extended : Extended (shapes n) ys
    extended = record {
      new = put.new;
      grown = grown;
      some = omega (arith, put.long, some_nodes t);
      own = rw grown put.own;
    }

    pub one_more : (m : Nodes) → shapes m ≡ ys → roots m ≡ roots n ++ (length (shapes m) - 1) ∷ [] → OneMore v t n m (length (roots n))
    one_more m e r = record {
      number = refl;
      new = put.new;
      nodes_are = e ∙ grown;
      long = put.long;
      roots_are = r;
      decodes =
          ap (formula_at (shapes m)) (ap (λ rs. root_of rs (length (roots n))) r ∙ root_new (roots n) (length (shapes m) - 1))
          ∙ ap (λ xs. formula_at xs (length xs - 1)) (e ∙ grown)
          ∙ put.root;
      earlier = λ g l.
          ap (formula_at (shapes m)) (ap (λ rs. root_of rs g) r ∙ root_kept (roots n) (length (shapes m) - 1) g l)
          ∙ ap (λ xs. formula_at xs (root n g)) (e ∙ grown)
          ∙ earlier (shapes n) put.new (root n g) (root_within n g l);
    }

    -- with room for its formula, or without
    module _ (ts : List Tok) (whole : tree_of ts ≡ Some t) (names_listed : AllListed v ts) where
      pub checked : (o : Option Nodes) → (IsSome o ↔ (length (roots n) < 8)) → IfSome o (λ m. shapes m ≡ ys)
          → IfSome o (λ m. roots m ≡ roots n ++ (length (shapes m) - 1) ∷ []) → ChecksTokens v ts n (ok_or o Full)
      checked None k a b = (t, whole, names_listed, eight_formulas (at (cases_lt (length (roots n)) 8)))
        where
          at : (length (roots n) < 8) ⊎ (8 ≤ length (roots n)) → length (roots n) ≡ 8
          at (inl l) = absurd (false≢true (k.1 l))
          at (inr l) = omega (arith, few_roots n)
      checked (Some m) k a b = (t, whole, names_listed, one_more m a b)

-- the tree that was laid
pub tree_laid : (v : Vocabulary) (ts : List Tok) (n : Nodes) (before after : DraftState) (r : Option (Unit {0})) (u : Unit {0})
    → before ≡ Some (shapes n) → r ≡ Some u → Whole v ts before after r
    → (t : Tree) × (tree_of ts ≡ Some t) × (lay v t (Some (shapes n)) ≡ after)
tree_laid v ts n before after r u over found w =
    let k : Whole v ts before after (Some u) = subst (Whole v ts before after) found w in
    (k.0, k.1, sym (k.2 ∙ ap (lay v k.0) over))

-- a text, by its tokens
module _ (text : List ℕ) (ts : List Tok) (lexed : tokens_of text ≡ Some ts) where
  abbrev pub is_formula : (t : Tree) → 1 ≤ length text → length text ≤ 1024 → tree_of ts ≡ Some t → IsFormula text t
  is_formula t s f e = record { some = s; few = f; parses = record { tokens = ts; lexed = lexed; whole = tree_out ts t e } }

  pub none_says : tree_of ts ≡ None → Unreadable text
  none_says e =
      no_formula (λ t d.
      let same : d.tokens ≡ ts = same_Some _ _ (sym d.lexed ∙ lexed) in
      let q : Some t ≡ None = sym (tree_in d.tokens t d.whole) ∙ ap tree_of same ∙ e in
      cc)

  -- the table that the tokens make
  module _ (v : Vocabulary) (n : Nodes) (s : 1 ≤ length text) (f : length text ≤ 1024) where
    pub from_tokens : (r : Result Nodes Refusal) → ChecksTokens v ts n r → Checks text v n r
    from_tokens (Ok m) k = record { tree = k.0; is = is_formula k.0 s f k.1; listed = k.2; next = k.3 }
    from_tokens (Err Grammar) k = none_says k
    from_tokens (Err Nameless) k = (k.0, is_formula k.0 s f k.1, k.2)
    from_tokens (Err Full) k = (k.0, is_formula k.0 s f k.1, k.2, k.3)
    from_tokens (Err e) k = absurd k
