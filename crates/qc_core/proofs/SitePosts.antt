-- What the deeds of one turn show: its record, its messages, and nothing that is taken.
use Rattle.std.proofs.Common.{◌≡◌, ℕ, ◌+◌, ◌||◌, Bool, true, false, List, [], ◌∷◌, ◌++◌, Option, Some, None, refl, ap}
use Rattle.std.proofs.Common.{◌∙◌}
use Rattle.std.specs.Prelude.{cond, map, option_to_list}
use Rattle.std.specs.List.{filter_map, flat_map}
use Rattle.std.specs.Option.{option_map_or}
use Rattle.std.proofs.lemmas.List.{append-nil}
use Rattle.qc_entry.specs.declared.line.Line.{Line}
use Rattle.qc_stamp.specs.declared.stamp.TxId.{TxId}
use Rattle.qc_entry.specs.declared.record.Prepared.{Prepared}
use Rattle.qc_msg.specs.declared.record.Record.{Record}
use Rattle.qc_msg.specs.declared.reply.Reply.{Reply}
use Rattle.qc_msg.specs.declared.turn.Posting.{Posting}
use Rattle.qc_msg.specs.declared.turn.Turn.{Turn}
use Rattle.qc_msg.specs.Vocabulary.{Deed, install_in, prepare_in, sends_of, tells_of, turn_deeds, writes_of, written_in}
use Rattle.qc_msg.specs.declared.payload.EpochStart.{EpochStart}
use Rattle.qc_promise.specs.Vocabulary.{Act, Lines, Sent, Told, Wrote, begun_with_lines, clocks_at, clocks_written}
use Rattle.qc_promise.specs.Vocabulary.{is_ended, is_over, learning, lines_done, lines_from, posted_next}
use Rattle.qc_promise.specs.Vocabulary.{arrived_from}
use Rattle.qc_promise.specs.Vocabulary.{promises_since, redeems, sent_by, standing, unless_over, unknown}
use Rattle.qc_promise.proofs.Lifetimes.{AreNoRises}
use Rattle.qc_promise.proofs.Posts.{posted_sends, learning-nil}

-- messages and a reply

abbrev pub talk : ℕ → List Posting → Option Reply → List Deed
talk n ps told = sends_of n ps ++ tells_of told

talk_rises : (n : ℕ) (ps : List Posting) (told : Option Reply) → AreNoRises (talk n ps told)
talk_rises n [] None = tt
talk_rises n [] (Some r) = (refl, tt)
talk_rises n (p ∷ ps) told = (refl, talk_rises (n + 1) ps told)

pub talk_ends : (tx : TxId) (n : ℕ) (ps : List Posting) (told : Option Reply) → is_ended tx (talk n ps told) ≡ false
talk_ends tx n [] None = refl
talk_ends tx n [] (Some r) = refl
talk_ends tx n (p ∷ ps) told = talk_ends tx (n + 1) ps told

talk_frees : (tx : TxId) (n : ℕ) (ps : List Posting) (told : Option Reply) → is_over tx (talk n ps told) ≡ false
talk_frees tx n [] None = refl
talk_frees tx n [] (Some r) = refl
talk_frees tx n (p ∷ ps) told = talk_frees tx (n + 1) ps told

pub talk_stands : (n : ℕ) (ps : List Posting) (told : Option Reply) → standing (talk n ps told) ≡ []
talk_stands n [] None = refl
talk_stands n [] (Some r) = refl
talk_stands n (p ∷ ps) told = talk_stands (n + 1) ps told

talk_prepares : (n : ℕ) (ps : List Posting) (told : Option Reply) → promises_since (talk n ps told) ≡ []
talk_prepares n [] None = refl
talk_prepares n [] (Some r) = refl
talk_prepares n (p ∷ ps) told = talk_prepares (n + 1) ps told

talk_clocks : (n : ℕ) (ps : List Posting) (told : Option Reply) → flat_map clocks_at (talk n ps told) ≡ []
talk_clocks n [] None = refl
talk_clocks n [] (Some r) = refl
talk_clocks n (p ∷ ps) told = talk_clocks (n + 1) ps told

talk_records : (n : ℕ) (ps : List Posting) (told : Option Reply) → filter_map written_in (talk n ps told) ≡ []
talk_records n [] None = refl
talk_records n [] (Some r) = refl
talk_records n (p ∷ ps) told = talk_records (n + 1) ps told

-- lines of which none are learned, and those that a record tells

abbrev pub lines_written : Lines → List Record → Record → Lines
lines_written l before w = option_map_or (λ (i : EpochStart). begun_with_lines i.lines) (install_in w)
    (learning l (lines_done before w))

talk_lines : (l : Lines) (before : List Record) (n : ℕ) (ps : List Posting) (told : Option Reply)
    → lines_from l before (talk n ps told) ≡ l
talk_lines l before n [] None = refl
talk_lines l before n [] (Some r) = learning-nil l
talk_lines l before n (p ∷ ps) told =
    ap (λ (v : Lines). lines_from v before (talk (n + 1) ps told)) (learning-nil l)
    ∙ talk_lines l before (n + 1) ps told

-- in the order in which they joined

abbrev pub arrived_written : List Line → Lines → List Record → Record → List Line
arrived_written arrived l before w =
    option_map_or (λ (i : EpochStart). i.lines) (install_in w) (arrived ++ unknown l (lines_done before w))

talk_arrived : (arrived : List Line) (l : Lines) (before : List Record) (n : ℕ) (ps : List Posting)
    (told : Option Reply) → arrived_from arrived l before (talk n ps told) ≡ arrived
talk_arrived arrived l before n [] None = refl
talk_arrived arrived l before n [] (Some r) = append-nil arrived
talk_arrived arrived l before n (p ∷ ps) told =
    ap (λ (v : List Line). arrived_from v (learning l []) before (talk (n + 1) ps told)) (append-nil arrived)
    ∙ talk_arrived arrived (learning l []) before (n + 1) ps told

-- the acts of a reply

abbrev pub told_of : Option Reply → List Act
told_of None = []
told_of (Some reply) = Told reply ∷ []

posted_tells : (told : Option Reply) → posted_next (tells_of told) ≡ told_of told
posted_tells None = refl
posted_tells (Some r) = refl

told_sends : (told : Option Reply) → filter_map sent_by (told_of told) ≡ []
told_sends None = refl
told_sends (Some r) = refl

-- the clocks that the record of a turn tells, and what it promises

abbrev pub clocks_by : Option Record → List ℕ
clocks_by w = option_map_or clocks_written w []

abbrev pub promises_by : Option Record → List Prepared
promises_by None = []
promises_by (Some written) = option_map_or (unless_over []) (prepare_in written) []

-- a turn

module _ (n : ℕ) (turn : Turn) where
  abbrev pub post : List Deed
  post = turn_deeds n turn

  pub post_rises : AreNoRises post
  post_rises = by turn.write
    where
      by : (w : Option Record) → AreNoRises (writes_of w ++ talk n turn.sends turn.told)
      by None = talk_rises n turn.sends turn.told
      by (Some w) = (refl, talk_rises n turn.sends turn.told)

  pub post_ends : (tx : TxId) → is_ended tx post ≡ false
  post_ends tx = by turn.write
    where
      by : (w : Option Record) → is_ended tx (writes_of w ++ talk n turn.sends turn.told) ≡ false
      by None = talk_ends tx n turn.sends turn.told
      by (Some w) = talk_ends tx n turn.sends turn.told

  pub post_stands : standing post ≡ []
  post_stands = by turn.write
    where
      by : (w : Option Record) → standing (writes_of w ++ talk n turn.sends turn.told) ≡ []
      by None = talk_stands n turn.sends turn.told
      by (Some w) = talk_stands n turn.sends turn.told

  pub post_clocks : flat_map clocks_at post ≡ clocks_by turn.write
  post_clocks = by turn.write
    where
      by : (w : Option Record) → flat_map clocks_at (writes_of w ++ talk n turn.sends turn.told) ≡ clocks_by w
      by None = talk_clocks n turn.sends turn.told
      by (Some w) = ap (λ (v : List ℕ). clocks_written w ++ v) (talk_clocks n turn.sends turn.told)
          ∙ append-nil (clocks_written w)

  pub post_records : filter_map written_in post ≡ option_to_list turn.write
  post_records = by turn.write
    where
      by : (w : Option Record) → filter_map written_in (writes_of w ++ talk n turn.sends turn.told) ≡ option_to_list w
      by None = talk_records n turn.sends turn.told
      by (Some w) = ap (λ (v : List Record). w ∷ v) (talk_records n turn.sends turn.told)

  -- what is posted: the record, the messages, the reply
  pub post_acts : posted_next post ≡ map Wrote (option_to_list turn.write) ++ (map Sent turn.sends ++ told_of turn.told)
  post_acts = by turn.write
    where
      talked : posted_next (talk n turn.sends turn.told) ≡ map Sent turn.sends ++ told_of turn.told
      talked = posted_sends n turn.sends (tells_of turn.told)
          ∙ ap (λ (v : List Act). map Sent turn.sends ++ v) (posted_tells turn.told)

      by : (w : Option Record) → posted_next (writes_of w ++ talk n turn.sends turn.told) ≡ map Wrote (option_to_list w)
          ++ (map Sent turn.sends ++ told_of turn.told)
      by None = talked
      by (Some w) = ap (λ (v : List Act). Wrote w ∷ v) talked

  pub post_frees : (tx : TxId) → is_over tx post ≡ option_map_or (redeems tx) turn.write false
  post_frees tx = by turn.write
    where
      or_false : (x y : Bool) → y ≡ false → (x || y) ≡ x
      or_false true y e = refl
      or_false false y e = e

      by : (w : Option Record) → is_over tx (writes_of w ++ talk n turn.sends turn.told) ≡ option_map_or
          (redeems tx) w false
      by None = talk_frees tx n turn.sends turn.told
      by (Some w) = or_false (redeems tx w) (is_over tx (talk n turn.sends turn.told))
          (talk_frees tx n turn.sends turn.told)

  pub post_prepares : promises_since post ≡ promises_by turn.write
  post_prepares = by turn.write
    where
      talked : promises_since (talk n turn.sends turn.told) ≡ []
      talked = talk_prepares n turn.sends turn.told

      kept : (p : Prepared) → unless_over (talk n turn.sends turn.told) p ≡ p ∷ []
      kept p = ap (λ (b : Bool). cond b [] (p ∷ [])) (talk_frees p.tx n turn.sends turn.told)

      by_prepare : (o : Option Prepared) → option_map_or (unless_over (talk n turn.sends turn.told)) o []
          ++ promises_since (talk n turn.sends turn.told) ≡ option_map_or (unless_over []) o []
      by_prepare None = talked
      by_prepare (Some p) =
          ap (λ (v : List Prepared). v ++ promises_since (talk n turn.sends turn.told)) (kept p)
          ∙ ap (λ (v : List Prepared). p ∷ v) talked

      by : (w : Option Record) → promises_since (writes_of w ++ talk n turn.sends turn.told) ≡ promises_by w
      by None = talked
      by (Some w) = by_prepare (prepare_in w)

  pub post_lines : (l : Lines) (before : List Record)
      → lines_from l before post ≡ option_map_or (lines_written l before) turn.write l
  post_lines l before = by turn.write
    where
      by : (w : Option Record) → lines_from l before (writes_of w ++ talk n turn.sends turn.told) ≡ option_map_or
          (lines_written l before) w l
      by None = talk_lines l before n turn.sends turn.told
      by (Some w) = talk_lines (lines_written l before w) (before ++ w ∷ []) n turn.sends turn.told

  pub post_arrived : (arrived : List Line) (l : Lines) (before : List Record)
      → arrived_from arrived l before post ≡ option_map_or (arrived_written arrived l before) turn.write arrived
  post_arrived arrived l before = by turn.write
    where
      by : (w : Option Record) → arrived_from arrived l before (writes_of w ++ talk n turn.sends turn.told)
          ≡ option_map_or (arrived_written arrived l before) w arrived
      by None = talk_arrived arrived l before n turn.sends turn.told
      by (Some w) = talk_arrived (arrived_written arrived l before w) (lines_written l before w) (before ++ w ∷ []) n
          turn.sends turn.told
