-- What a site's deeds show, as more is done after the post of its last input.
use Rattle.std.proofs.Common.{◌≡◌, ℕ, ◌&&◌, ◌||◌, not, Bool, true, false, cond, List, [], ◌∷◌, ◌++◌, Option, Some, None}
use Rattle.std.proofs.Common.{refl, sym, ap, ◌∙◌, append_assoc}
use Rattle.std.specs.Prelude.{filter, fold, option_and_then}
use Rattle.std.specs.List.{cons_option, filter_map, list_any}
use Rattle.std.specs.Option.{option_map_or}
use Rattle.std.proofs.lemmas.List.{append-nil}
use Rattle.std.proofs.lemmas.List.Elements.{filter-append}
use Rattle.std.proofs.lemmas.List.Folds.{list_any-append}
use Rattle.qc_entry.specs.declared.line.Line.{Line}
use Rattle.qc_entry.specs.declared.record.Prepared.{Prepared}
use Rattle.qc_msg.specs.declared.message.Envelope.{Envelope}
use Rattle.qc_msg.specs.declared.record.Record.{Record}
use Rattle.qc_msg.specs.declared.turn.Posting.{Posting}
use Rattle.qc_msg.specs.Vocabulary.{Deed, Requested, got_in, install_in, prepare_in, request_in, written_in}
use Rattle.qc_msg.specs.declared.payload.EpochStart.{EpochStart}
use Rattle.qc_promise.specs.Vocabulary.{Act, Grant, Lines, arrived_from, begun_with_lines, frees, grants, is_decision}
use Rattle.qc_promise.specs.Vocabulary.{is_ended}
use Rattle.qc_promise.specs.Vocabulary.{is_final, is_granted, is_over, joining, learning, left_of, lines_done}
use Rattle.qc_promise.specs.Vocabulary.{lines_from, posted_next, promises_since, recorded_from, sent_by, standing}
use Rattle.qc_promise.specs.Vocabulary.{standing_as, standing_by, unless_over, view_by, view_in, with_given}
use Rattle.qc_promise.specs.Vocabulary.{with_joined, with_written, unknown, with_arrived}
use Rattle.qc_promise.proofs.Posts.{posted-more}

abbrev pub stays : List Deed → Grant → Bool
stays ys r = not (is_ended r.tx ys)

-- deeds, and then some that don't belong to the post of the last input of these
module _ (ys : List Deed) (apart : posted_next ys ≡ []) where
  pub granted-more : (number : ℕ) (xs : List Deed) → is_granted number (xs ++ ys) ≡ is_granted number xs
  granted-more number xs = ap (λ (v : List Act). list_any (λ (p : Posting). grants number p.message)
      (filter_map sent_by v)) (posted-more ys apart xs)

  -- requests that stand

  kept_if : (x : Grant) (a b c : Bool) → is_ended x.tx ys ≡ c
      → cond (a && not (b || c)) (x ∷ []) [] ≡ filter (stays ys) (cond (a && not b) (x ∷ []) [])
  kept_if x false b c is = refl
  kept_if x true true c is = refl
  kept_if x true false true is = rw is refl
  kept_if x true false false is = rw is refl

  stands_as : (number : ℕ) (q : Requested) (xs : List Deed)
      → standing_as number (xs ++ ys) q ≡ filter (stays ys) (standing_as number xs q)
  stands_as number q xs =
      ap (λ (b : Bool). cond (b && not (is_ended q.tx (xs ++ ys))) (record { tx = q.tx; want = q.want } ∷ []) [])
      (granted-more number xs)
      ∙ ap (λ (b : Bool). cond (is_granted number xs && not b) (record { tx = q.tx; want = q.want } ∷ []) [])
      (list_any-append (is_decision is_final q.tx) xs ys)
      ∙ kept_if (record { tx = q.tx; want = q.want }) (is_granted number xs) (is_ended q.tx xs) (is_ended q.tx ys) refl

  stands_by : (o : Option Envelope) (xs : List Deed)
      → option_map_or (standing_by (xs ++ ys)) o [] ≡ filter (stays ys) (option_map_or (standing_by xs) o [])
  stands_by None xs = refl
  stands_by (Some e) xs = by (request_in e.message)
    where
      by : (q : Option Requested) → option_map_or (standing_as e.number (xs ++ ys)) q [] ≡ filter (stays ys)
          (option_map_or (standing_as e.number xs) q [])
      by None = refl
      by (Some q) = stands_as e.number q xs

  pub standing-more : (xs : List Deed) → standing (xs ++ ys) ≡ filter (stays ys) (standing xs) ++ standing ys
  standing-more [] = refl
  standing-more (d ∷ xs) =
      ap (λ (v : List Grant). v ++ standing (xs ++ ys)) (stands_by (got_in d) xs)
      ∙ ap (λ (v : List Grant). filter (stays ys) (option_map_or (standing_by xs) (got_in d) []) ++ v)
      (standing-more xs)
      ∙ sym (append_assoc (filter (stays ys) (option_map_or (standing_by xs) (got_in d) []))
      (filter (stays ys) (standing xs)) (standing ys))
      ∙ ap (λ (v : List Grant). v ++ standing ys)
      (sym (filter-append (stays ys) (option_map_or (standing_by xs) (got_in d) []) (standing xs)))

  -- the lines

  view-more : (e : Envelope) (xs : List Deed) → view_by (xs ++ ys) e ≡ view_by xs e
  view-more e xs = ap (λ (b : Bool). option_map_or (λ (q : Requested). cond b (view_in q.want) [])
      (request_in e.message) []) (granted-more e.number xs)

  joining-more : (before : List Record) (d : Deed) (xs : List Deed) → joining before d (xs ++ ys) ≡ joining before d xs
  joining-more before d xs = by (got_in d)
    where
      by : (o : Option Envelope) → option_map_or (view_by (xs ++ ys)) o
          (option_map_or (lines_done before) (written_in d) []) ≡ option_map_or (view_by xs) o
          (option_map_or (lines_done before) (written_in d) [])
      by None = refl
      by (Some e) = view-more e xs

  pub lines-more : (l : Lines) (before : List Record) (xs : List Deed)
      → lines_from l before (xs ++ ys) ≡ lines_from (lines_from l before xs) (fold with_written before xs) ys
  lines-more l before [] = refl
  lines-more l before (d ∷ xs) =
      ap (λ (v : List Line). lines_from (option_map_or (λ (i : EpochStart). begun_with_lines i.lines)
      (option_and_then install_in (written_in d)) (learning l v)) (with_written before d) (xs ++ ys))
      (joining-more before d xs)
      ∙ lines-more (with_joined l before d xs) (with_written before d) xs

  -- and in the order in which they joined
  pub arrived-more : (arrived : List Line) (l : Lines) (before : List Record) (xs : List Deed)
      → arrived_from arrived l before (xs ++ ys)
      ≡ arrived_from (arrived_from arrived l before xs) (lines_from l before xs) (fold with_written before xs) ys
  arrived-more arrived l before [] = refl
  arrived-more arrived l before (d ∷ xs) =
      ap (λ (v : List Line). arrived_from (option_map_or (λ (i : EpochStart). i.lines)
      (option_and_then install_in (written_in d)) (arrived ++ unknown l v))
      (option_map_or (λ (i : EpochStart). begun_with_lines i.lines)
      (option_and_then install_in (written_in d)) (learning l v)) (with_written before d) (xs ++ ys))
      (joining-more before d xs)
      ∙ arrived-more (with_arrived arrived l before d xs) (with_joined l before d xs) (with_written before d) xs

-- the records by then are those before and those that the deeds write
pub written_then : (before : List Record) (xs : List Deed)
    → fold with_written before xs ≡ before ++ filter_map written_in xs
written_then before [] = sym (append-nil before)
written_then before (d ∷ xs) = by (written_in d) (λ (v : List Record). written_then v xs)
  where
    by : (o : Option Record) → ((v : List Record) → fold with_written v xs ≡ v ++ filter_map written_in xs)
        → fold with_written (option_map_or (λ (r : Record). before ++ r ∷ []) o before) xs ≡ before ++ cons_option o
        (filter_map written_in xs)
    by None rest = rest before
    by (Some r) rest = rest (before ++ r ∷ []) ∙ append_assoc before (r ∷ []) (filter_map written_in xs)

-- promises, as any more is done
module _ (ys : List Deed) where
  abbrev pub lasts : Prepared → Bool
  lasts p = not (is_over p.tx ys)

  lasting : (p : Prepared) (b c : Bool) → is_over p.tx ys ≡ c
      → cond (b || c) [] (p ∷ []) ≡ filter lasts (cond b [] (p ∷ []))
  lasting p true c is = refl
  lasting p false true is = rw is refl
  lasting p false false is = rw is refl

  over-more : (xs : List Deed) (p : Prepared) → unless_over (xs ++ ys) p ≡ filter lasts (unless_over xs p)
  over-more xs p =
      ap (λ (b : Bool). cond b [] (p ∷ [])) (list_any-append (frees p.tx) xs ys)
      ∙ lasting p (is_over p.tx xs) (is_over p.tx ys) refl

  -- those of the records of the rise
  pub left-more : (xs : List Deed) (ps : List Prepared) → left_of (xs ++ ys) ps ≡ filter lasts (left_of xs ps)
  left-more xs [] = refl
  left-more xs (p ∷ ps) =
      ap (λ (v : List Prepared). v ++ left_of (xs ++ ys) ps) (over-more xs p)
      ∙ ap (λ (v : List Prepared). filter lasts (unless_over xs p) ++ v) (left-more xs ps)
      ∙ sym (filter-append lasts (unless_over xs p) (left_of xs ps))

  -- those that are written since
  pub prepared-more : (xs : List Deed) → promises_since (xs ++ ys) ≡ filter lasts (promises_since xs)
      ++ promises_since ys
  prepared-more [] = refl
  prepared-more (d ∷ xs) =
      ap (λ (v : List Prepared). v ++ promises_since (xs ++ ys)) (by (option_and_then prepare_in (written_in d)))
      ∙ ap (λ (v : List Prepared). filter lasts
      (option_map_or (unless_over xs) (option_and_then prepare_in (written_in d)) []) ++ v) (prepared-more xs)
      ∙ sym (append_assoc (filter lasts (option_map_or (unless_over xs) (option_and_then prepare_in (written_in d)) []))
      (filter lasts (promises_since xs)) (promises_since ys))
      ∙ ap (λ (v : List Prepared). v ++ promises_since ys)
      (sym (filter-append lasts (option_map_or (unless_over xs) (option_and_then prepare_in (written_in d)) [])
      (promises_since xs)))
    where
      by : (o : Option Prepared) → option_map_or (unless_over (xs ++ ys)) o [] ≡ filter lasts
          (option_map_or (unless_over xs) o [])
      by None = refl
      by (Some p) = over-more xs p

-- what records give, as more are written
pub recorded-more : (l : Lines) (before rs ws : List Record)
    → recorded_from l before (rs ++ ws) ≡ recorded_from (recorded_from l before rs) (before ++ rs) ws
recorded-more l before [] ws = ap (λ (v : List Record). recorded_from l v ws) (sym (append-nil before))
recorded-more l before (r ∷ rs) ws =
    recorded-more (with_given l before r) (before ++ r ∷ []) rs ws
    ∙ ap (λ (v : List Record). recorded_from (recorded_from l before (r ∷ rs)) v ws) (append_assoc before (r ∷ []) rs)
