-- What the words of some nodes are: five a node, its node and its pixel edges; or the refusal of one. Assumes nothing.
use Prim.Native.Nat.{ℕ, zero, suc, ◌*◌, ◌<◌}
use native.Mathlib.Omega.{arith}
use native.Mathlib.Nat.{mul-suc, not-suc-le-zero, zero-lt-suc, le_of_suc-le-suc}
use mathlib.Core.List.{List, [], ◌∷◌, ◌++◌}
use mathlib.Core.Path.{◌≡◌, refl, sym, ◌∙◌, subst}
use lib.IntN.{ℤ}
use lib.ListN.{length, get_or}
use Rattle.std.specs.Prelude.{Float, Result, Ok, Err}
use Rattle.geometry.specs.declared.Point.{Point}
use Rattle.geometry.specs.declared.Rect.{Rect}
use Rattle.refusal.specs.declared.Refusal.{Refusal}
use Rattle.refusal.specs.declared.Refusal.TheVariants.{NotInEighths}
use Rattle.records.specs.Records.{record_at, records}
use Rattle.records.proofs.Laws.{record_of_records}
use Rattle.tree.specs.declared.layout.Layout.{Layout}
use Rattle.tree_record.specs.Layout.{layout_width, layout_of}
use Rattle.pixels.specs.Conditions.{NotAllInEighths}
use Rattle.pixels.specs.Pixels.{pixel_edges}
use Rattle.pixels.proofs.Edges.{refused_exactly}
use Rattle.touch.specs.Touch.{touch_width, five_words, told, joined, touch_words}

-- those of the others stand behind five
behind : (node : ℕ) (edges : Rect ℤ) (words : List ℕ) (place : ℕ) → record_at touch_width words place ≡ record_at touch_width (five_words node edges ++ words) (suc place)
unfolding records
behind node edges words place =
    sym (record_of_records touch_width (suc place) words place (omega arith))
    ∙ record_of_records touch_width (suc (suc place)) (five_words node edges ++ words) (suc place) (omega arith)

-- the layout at a node's place
abbrev pub own_layout : List ℕ → ℕ → Layout
own_layout layouts node = layout_of (record_at layout_width layouts node)

module _ (layouts : List ℕ) (offset : Point Float) where
  -- five words that are a node's
  pub record OfNode (node : ℕ) (five : List ℕ) : Type 0 where
    pub edges : Rect ℤ
    pub pixels : pixel_edges (own_layout layouts node) offset ≡ Ok edges
    pub words : five ≡ five_words node edges

  -- five a node, in turn
  pub record OfNodes (nodes words : List ℕ) : Type 0 where
    pub long : length words ≡ touch_width * length nodes
    pub each : (place : ℕ) → place < length nodes → OfNode (get_or nodes place 0) (record_at touch_width words place)

  -- one of them has no pixel edges
  pub record OneRefused (nodes : List ℕ) (r : Refusal) : Type 0 where
    pub refusal : r ≡ NotInEighths
    pub place : ℕ
    pub there : place < length nodes
    pub node : NotAllInEighths (own_layout layouts (get_or nodes place 0)) offset

  abbrev pub TellsOf : List ℕ → Result (List ℕ) Refusal → Type 0
  TellsOf nodes (Ok words) = OfNodes nodes words
  TellsOf nodes (Err r) = OneRefused nodes r

  -- the words of one node before those of others
  more : (node : ℕ) (nodes : List ℕ) (edges : Rect ℤ) (words : List ℕ) → pixel_edges (own_layout layouts node) offset ≡ Ok edges → OfNodes nodes words
      → OfNodes (node ∷ nodes) (five_words node edges ++ words)
  unfolding record_at
  more node nodes edges words e o =
      record { long = let l = o.long in omega (arith, mul-suc touch_width (length nodes)); each = each }
    where
      each : (place : ℕ) → place < suc (length nodes) → OfNode (get_or (node ∷ nodes) place 0) (record_at touch_width (five_words node edges ++ words) place)
      each zero h = record { edges = edges; pixels = e; words = refl }
      each (suc place) h = let l = le_of_suc-le-suc h in subst (OfNode (get_or nodes place 0)) (behind node edges words place) (o.each place l)

  later_refused : (node : ℕ) (nodes : List ℕ) (r : Refusal) → OneRefused nodes r → OneRefused (node ∷ nodes) r
  later_refused node nodes r o = record { refusal = o.refusal; place = suc o.place; there = let h = o.there in omega arith; node = o.node }

  first_refused : (node : ℕ) (nodes : List ℕ) (r : Refusal) → pixel_edges (own_layout layouts node) offset ≡ Err r → OneRefused (node ∷ nodes) r
  first_refused node nodes r e =
      let x = (refused_exactly (own_layout layouts node) offset r).0 e in
      record { refusal = x.0; place = zero; there = zero-lt-suc (length nodes); node = x.1 }

  pub words_told : (nodes : List ℕ) → TellsOf nodes (touch_words layouts offset nodes)
  unfolding touch_words
  words_told [] = record { long = refl; each = λ place h. absurd (not-suc-le-zero h) }
  words_told (node ∷ nodes) = go (pixel_edges (own_layout layouts node) offset) refl (touch_words layouts offset nodes) (words_told nodes)
    where
      go : (p : Result (Rect ℤ) Refusal) → pixel_edges (own_layout layouts node) offset ≡ p → (others : Result (List ℕ) Refusal) → TellsOf nodes others
          → TellsOf (node ∷ nodes) (joined (told node p) others)
      go (Ok edges) e (Ok words) o = more node nodes edges words e o
      go (Ok edges) e (Err r) o = later_refused node nodes r o
      go (Err r) e others o = first_refused node nodes r e
