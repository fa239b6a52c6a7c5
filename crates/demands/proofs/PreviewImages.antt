-- A preview and that of the mirror image are a run and its mirror image, over the copies. Assumes nothing.
use Prim.Native.Nat.{ℕ, ◌*◌, ◌/◌, ◌%◌, ◌<◌, ◌≤◌}
use native.Mathlib.Omega.{arith}
use native.Mathlib.Nat.{add-zero, div-add-mod, mod-lt}
use mathlib.Core.Path.{◌≡◌, refl, sym, ap, ◌∙◌, subst}
use mathlib.Core.Bool.{Bool, true, false}
use mathlib.Core.List.{List, [], ◌∷◌, map, map-append}
use lib.Dec.{eqb, ltb, lit<}
use lib.ListN.{length, get_or, drop}
use borrow.Author.Tests.{eqb-true, eqb-false, ltb-true, ltb-false, le-ltb}
use Rattle.std.specs.Prelude.{◌≢◌, Result}
use Rattle.std.proofs.lemmas.List.{ext_get_or, get_or-drop}
use Rattle.records.proofs.Laws.{drop_written}
use Rattle.style_record.specs.Record.{style_words, item, items}
use Rattle.style_record.specs.Table.{with_style}
use Rattle.style_record.proofs.Same.{word_of_item}
use Rattle.style_record.proofs.Replaced.{one_record}
use Rattle.style_record.proofs.Copies.{copy_is_as_long, copy_has_the_style, others_are_lent}
use Rattle.refusal.specs.declared.Refusal.{Refusal}
use Rattle.run.specs.declared.Answer.{Answer}
use Rattle.run.specs.declared.Counts.{Counts}
use Rattle.run.specs.declared.Extents.{Extents}
use Rattle.run.specs.declared.Opening.{Opening}
use Rattle.run.specs.declared.State.{State}
use Rattle.run.specs.Call.{Lent, Outcome}
use Rattle.run.specs.Run.{extents_of, opened}
use Rattle.run.specs.Preview.{over_copy}
use Rattle.run.specs.PreviewTheorems.{loan_over, turn_over}
use Rattle.run.specs.Theorems.{Loan, own, other}
use Rattle.run.proofs.PreviewCalls.{opening_extents}
use Rattle.run.proofs.Preview.{preview_opening_is_the_copys}
use Rattle.mirror_run.specs.Image.{counterpart, image_opening, image_style, each_record, image_styles, image_candidates}
use Rattle.mirror_run.specs.Runs.{Message, Fair, LendsAbove, lengths_of}
use Rattle.mirror_run.proofs.Words.{listed_word, each_length, each_word}
use Rattle.mirror_run.proofs.Counterpart.{counterpart_there}
use Rattle.demands.specs.Entries.{PreviewOpens, PreviewRepliesTo, BothBy, BothRuns, AfterEach}
use Rattle.demands.specs.Demands.{OfImages, AreMirrored, AreToldAlike, AreDrawnAlike, OfPreviewImages, PreviewMirrorImage, PreviewMirroredReach, PreviewMirroredDrawing}
use Rattle.demands.proofs.Demands.{after_each, mirror_image, mirrored_reach, mirrored_drawing}
use Rattle.demands.proofs.Previews.{WithLength, copy_takes, takes_length}

-- ---- a record's image, by its words

same_image : (r r' : ℕ → ℕ) → ((k : ℕ) → k < style_words → r k ≡ r' k) → (k : ℕ) → k < style_words → image_style r k ≡ image_style r' k
unfolding image_style
same_image r r' same k h = rw (same k h, same (counterpart k) (counterpart_there k h)) refl

image_items : (ws : List ℕ) → items (image_styles ws) ≡ items ws
unfolding items
image_items ws = ap (λ (n : ℕ). n / style_words) (each_length style_words image_style ws)

image_item : (ws : List ℕ) (i k : ℕ) → i < items ws → k < style_words → item (image_styles ws) i k ≡ image_style (item ws i) k
unfolding items
image_item ws i k h l = each_word style_words image_style ws i k l h

-- words of no whole record stay
image_rest : (ws : List ℕ) (j : ℕ) → j < length ws → items ws ≤ j / style_words → get_or (image_styles ws) j 0 ≡ get_or ws j 0
unfolding items each_record
image_rest ws j h l = listed_word (length ws) _ j h ∙ rw (le-ltb (j / style_words) (length ws / style_words) l) refl

one_there : (r : List ℕ) → length r ≡ style_words → 0 < items r
unfolding items
one_there r one = omega (arith, one)

-- ---- the copy's image is a copy of the image, with the style's image written in

module _ (s : List ℕ) (node : ℕ) (r : List ℕ) (one : length r ≡ style_words) (there : node < items s) where
  copied : (k : ℕ) → k < style_words → item (with_style s node r) node k ≡ item r 0 k
  copied k h =
      sym (word_of_item (with_style s node r) node (sym (copy_has_the_style s node r one there).0) k h) ∙ word_of_item r 0 (sym (one_record r one)) k h

  other_words : (i : ℕ) → i ≢ node → (k : ℕ) → k < style_words → item (with_style s node r) i k ≡ item s i k
  other_words i apart k h =
      sym (word_of_item (with_style s node r) i (sym (others_are_lent s node r i one apart).0) k h) ∙ word_of_item s i refl k h

  -- words of no whole record, which stand behind every record
  rest : (j : ℕ) → items s ≤ j / style_words → get_or (with_style s node r) j 0 ≡ get_or s j 0
  rest j l = sym (read (with_style s node r) j) ∙ ap (λ (ws : List ℕ). get_or ws 0 0) (drop_written j s (style_words * node) r (omega (arith, one, there, l))) ∙ read s j
    where
      read : (ws : List ℕ) (j : ℕ) → get_or (drop j ws) 0 0 ≡ get_or ws j 0
      read ws j = get_or-drop j ws 0 0 ∙ ap (λ (x : ℕ). get_or ws x 0) (add-zero j)

module _ (s : List ℕ) (node : ℕ) (r : List ℕ) (one : length r ≡ style_words) (there : node < items s) where
  copy : List ℕ
  copy = with_style s node r

  image_one : length (image_styles r) ≡ style_words
  image_one = each_length style_words image_style r ∙ one

  image_there : node < items (image_styles s)
  image_there = rw (image_items s) there

  copy_items : items (with_style s node r) ≡ items s
  copy_items = (copy_is_as_long s node r).1

  there_too : (i : ℕ) → i < items s → i < items (with_style s node r)
  there_too i h = rw copy_items h

  at_node : (k : ℕ) → k < style_words → item (image_styles (with_style s node r)) node k ≡ item (with_style (image_styles s) node (image_styles r)) node k
  at_node k l =
      image_item (with_style s node r) node k (there_too node there) l
      ∙ same_image (item (with_style s node r) node) (item r 0) (copied s node r one there) k l
      ∙ sym (image_item r 0 k (one_there r one) l)
      ∙ sym (copied (image_styles s) node (image_styles r) image_one image_there k l)

  elsewhere : (i k : ℕ) → i ≢ node → i < items s → k < style_words → item (image_styles (with_style s node r)) i k ≡ item (with_style (image_styles s) node (image_styles r)) i k
  elsewhere i k apart h l =
      image_item (with_style s node r) i k (there_too i h) l
      ∙ same_image (item (with_style s node r) i) (item s i) (other_words s node r one there i apart) k l
      ∙ sym (image_item s i k h l)
      ∙ sym (other_words (image_styles s) node (image_styles r) image_one image_there i apart k l)

  each_item : (i k : ℕ) → i < items s → k < style_words → item (image_styles (with_style s node r)) i k ≡ item (with_style (image_styles s) node (image_styles r)) i k
  each_item i k h l = go (eqb i node) refl
    where
      go : (b : Bool) → eqb i node ≡ b → item (image_styles (with_style s node r)) i k ≡ item (with_style (image_styles s) node (image_styles r)) i k
      go true e = rw (eqb-true i node e) (at_node k l)
      go false e = elsewhere i k (eqb-false i node e) h l

  each_word_of : (j : ℕ) → j < length (image_styles (with_style s node r)) → get_or (image_styles (with_style s node r)) j 0 ≡ get_or (with_style (image_styles s) node (image_styles r)) j 0
  each_word_of j h = go (ltb (j / style_words) (items s)) refl
    where
      short : j < length (with_style s node r)
      short = rw (← each_length style_words image_style (with_style s node r)) h

      go : (b : Bool) → ltb (j / style_words) (items s) ≡ b → get_or (image_styles (with_style s node r)) j 0 ≡ get_or (with_style (image_styles s) node (image_styles r)) j 0
      go true e =
          subst (λ (x : ℕ). get_or (image_styles (with_style s node r)) x 0 ≡ get_or (with_style (image_styles s) node (image_styles r)) x 0) (div-add-mod j style_words)
          (each_item (j / style_words) (j % style_words) (ltb-true (j / style_words) (items s) e) (mod-lt j (lit< tt)))
      go false e =
          let past : items s ≤ j / style_words = ltb-false (j / style_words) (items s) e in
          image_rest (with_style s node r) j short (rw copy_items past)
          ∙ rest s node r one there j past
          ∙ sym (image_rest s j (rw (← (copy_is_as_long s node r).0) short) past)
          ∙ sym (rest (image_styles s) node (image_styles r) image_one image_there j (rw (image_items s) past))

  pub image_of_copy : image_styles (with_style s node r) ≡ with_style (image_styles s) node (image_styles r)
  image_of_copy =
      ext_get_or 0 (image_styles (with_style s node r)) (with_style (image_styles s) node (image_styles r))
      (each_length style_words image_style (with_style s node r) ∙ (copy_is_as_long s node r).0
      ∙ sym (each_length style_words image_style s) ∙ sym (copy_is_as_long (image_styles s) node (image_styles r)).0)
      each_word_of

-- ---- both previews are a run and its mirror image

module _ (node : ℕ) (style : List ℕ) where
  extents_over : (lent : Lent) → extents_of (over_copy node style lent) ≡ extents_of lent
  extents_over lent = rw ((copy_is_as_long lent.styles node style).0) refl

  lengths_over : (e : Extents) (loan : Loan) → lengths_of e (loan_over node style loan) ≡ lengths_of e loan
  lengths_over e own = refl
  lengths_over e (other lent) = extents_over lent

  above_over : (c : Counts) (loan : Loan) → LendsAbove c loan → LendsAbove c (loan_over node style loan)
  above_over c own h = h
  above_over c (other lent) h = h

  above_lent : (c : Counts) (loan : Loan) → LendsAbove c (loan_over node style loan) → LendsAbove c loan
  above_lent c own h = h
  above_lent c (other lent) h = h

module _ (node : ℕ) (style style' : List ℕ) where
  message_over : Message → Message
  message_over m = record { turn = turn_over node style m.turn; image = turn_over node style' m.image }

  fair_over : (before : State) (answer : Result Answer Refusal) (m : Message) → Fair before answer m → Fair before answer (message_over m)
  unfolding message_over
  fair_over before answer m f =
      record {
        alike =
            record {
              reply = f.alike.reply;
              surfaced = f.alike.surfaced;
              slices = lengths_over node style before.opened.extents m.turn.loan ∙ f.alike.slices ∙ sym (lengths_over node style' before.opened.extents m.image.loan);
            };
        words =
            λ u.
            let w = f.words u in
            record { slices = ap (loan_over node style) w.slices; image_slices = ap (loan_over node style') w.image_slices; surfaced = w.surfaced };
        tally =
            λ t.
            above_over node style' before.counts m.image.loan
            (f.tally (record { asked = t.asked; wrong = t.wrong; above = above_lent node style before.counts m.turn.loan t.above }));
        quarters = f.quarters;
        surfaces_none = f.surfaces_none;
      }

module _
    (node : ℕ)
    (style style' : List ℕ)
    (o : Opening)
    (candidates : List ℕ)
    (lent lent' : Lent)
    (one : length style ≡ style_words)
    (there : node < items lent.styles)
    (one' : length style' ≡ style_words)
    (there' : node < items lent'.styles) where
  opened_long : (o : Opening) (candidates : List ℕ) (style : List ℕ) (lent : Lent) {has : Outcome} → has ≡ opened o candidates (over_copy node style lent) → WithLength lent.styles has
  opened_long o candidates style lent c =
      ap (λ (x : Outcome). x.step.state.opened.extents.styles) c
      ∙ ap (λ (e : Extents). e.styles) (opening_extents o candidates (over_copy node style lent)) ∙ (copy_is_as_long lent.styles node style).0

  both_over :
      {messages : List Message} {has has' : Outcome}
      → BothBy (PreviewOpens node style) (PreviewOpens node style') (PreviewRepliesTo node style) (PreviewRepliesTo node style') o candidates lent lent' messages has has'
      → BothRuns o candidates (over_copy node style lent) (over_copy node style' lent') (map (message_over node style style') messages) has has'
      × WithLength lent.styles has
      × WithLength lent'.styles has'
  unfolding message_over
  both_over (BothBy.opening c c') =
      let d = c ∙ preview_opening_is_the_copys o candidates node style lent one there in
      let d' = c' ∙ preview_opening_is_the_copys (image_opening o) (image_candidates o.area candidates) node style' lent' one' there' in
      (BothBy.opening d d', opened_long o candidates style lent d, opened_long (image_opening o) (image_candidates o.area candidates) style' lent' d')
  both_over (BothBy.reply {messages = messages} {before = before} {before' = before'} {has = has} {has' = has'} m earlier c c' fair) =
      let b = both_over earlier in (
        subst (λ (ms : List Message). BothRuns o candidates (over_copy node style lent) (over_copy node style' lent') ms has has')
            (sym (map-append (message_over node style style') messages (m ∷ [])))
            (BothBy.reply (message_over node style style' m) b.0
            (copy_takes node style lent.styles one there before m.turn.heard m.turn.loan b.1 c)
            (copy_takes node style' lent'.styles one' there' before' m.image.heard m.image.loan b.2 c')
            (fair_over node style style' before.step.state has.step.answer m fair)),
        takes_length node style lent.styles one there before m.turn.heard m.turn.loan b.1 c,
        takes_length node style' lent'.styles one' there' before' m.image.heard m.image.loan b.2 c',
      )

-- what holds after each call holds after the last
at_last : (P : Outcome → Outcome → Type 0) {o : Opening} {candidates : List ℕ} {lent lent' : Lent} {messages : List Message} {has has' : Outcome}
    (both : BothRuns o candidates lent lent' messages has has')
    → AfterEach P both
    → P has has'
at_last P (BothBy.opening c c') h = h
at_last P (BothBy.reply m earlier c c' fair) h = h.1

-- so what holds of every run and its image holds of every preview and its image
of_previews : (P : Opening → List ℕ → Lent → Lent → Outcome → Outcome → Type 0) → OfImages P → OfPreviewImages P
of_previews P of_images node style o candidates lent lent' messages has has' one there area table quarter styles same both =
    let copy = over_copy node style lent in
    let copy' = over_copy node (image_styles style) lent' in
    let there' : node < items lent'.styles = subst (λ (ws : List ℕ). node < items ws) (sym styles) (subst (λ (n : ℕ). node < n) (sym (image_items lent.styles)) there) in
    let images : copy'.styles ≡ image_styles copy.styles = ap (λ (ws : List ℕ). with_style ws node (image_styles style)) styles ∙ sym (image_of_copy lent.styles node style one there) in
    let lengths : extents_of copy ≡ extents_of copy' = extents_over node style lent ∙ same ∙ sym (extents_over node (image_styles style) lent') in
    after_each (P o candidates copy copy')
    (λ _ _ _ b.
    let c = both_over node style (image_styles style) o candidates lent lent' one there (each_length style_words image_style style ∙ one) there' b in
    at_last (P o candidates copy copy') c.0 (of_images o candidates copy copy' _ _ _ area table quarter images lengths c.0))
    both

pub preview_mirror_image : PreviewMirrorImage
preview_mirror_image = of_previews AreMirrored mirror_image

pub preview_mirrored_reach : PreviewMirroredReach
preview_mirrored_reach = of_previews AreToldAlike mirrored_reach

pub preview_mirrored_drawing : PreviewMirroredDrawing
preview_mirrored_drawing = of_previews AreDrawnAlike mirrored_drawing
