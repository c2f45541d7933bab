-- The lines that a site knows once it has taken one more input and posted a turn. And what a life's log began with is
-- what its records give.
use Rattle.std.proofs.Common.{◌≡◌, ℕ, List, [], ◌∷◌, ◌++◌, Option, Some, None, refl, sym, ap, ◌∙◌}
use Rattle.std.specs.Prelude.{option_and_then, option_to_list}
use Rattle.std.specs.List.{cons_option, filter_map}
use Rattle.std.specs.Option.{option_map_or}
use Rattle.qc_entry.specs.declared.line.Line.{Line}
use Rattle.qc_entry.specs.declared.record.Prepared.{Prepared}
use Rattle.qc_entry.specs.Vocabulary.{union}
use Rattle.qc_msg.specs.declared.record.Record.{Record}
use Rattle.qc_msg.specs.declared.step.Input.{Input}
use Rattle.qc_msg.specs.declared.turn.Turn.{Turn}
use Rattle.qc_msg.specs.Vocabulary.{Deed, heard_in, install_in, prepare_in, turn_deeds, written_in}
use Rattle.qc_msg.specs.declared.payload.EpochStart.{EpochStart}
use Rattle.qc_promise.specs.Vocabulary.{all_arrived, arrived_from, risen_with, unknown}
use Rattle.qc_promise.specs.Vocabulary.{Lifetime, Lines, begun_with_lines, joining, learning, lifetime, lines_done}
use Rattle.qc_promise.specs.Vocabulary.{lines_from, lines_shown, no_lines, recorded_by, recorded_from, records_in}
use Rattle.qc_promise.specs.Vocabulary.{view_by, with_given, with_written}
use Rattle.qc_core.proofs.SiteGrowth.{arrived-more, lines-more, recorded-more, written_then}
use Rattle.qc_core.proofs.SitePosts.{arrived_written, lines_written, post_arrived, post_lines}
use Rattle.qc_core.proofs.SiteRecorded.{all_records, life_goes_on, posted}

-- the view that an input brings, where it is granted
abbrev pub view_given : Input → List Deed → List Line
view_given g after = option_map_or (view_by after) (heard_in g) []

module _ (ds : List Deed) (g : Input) (n : ℕ) (turn : Turn) where
  abbrev pub lines_then : Lines
  lines_then =
      option_map_or (lines_written (learning (lines_shown ds) (view_given g (turn_deeds n turn))) (records_in ds))
      turn.write
      (learning (lines_shown ds) (view_given g (turn_deeds n turn)))

  pub more_lines : lines_shown (ds ++ posted ds g n turn) ≡ lines_then
  more_lines =
      ap (λ (l : Lifetime). lines_from (recorded_by l.kept) l.kept l.since) (life_goes_on ds g n turn)
      ∙ lines-more (posted ds g n turn) refl (recorded_by (lifetime ds).kept) (lifetime ds).kept (lifetime ds).since
      ∙ ap (λ (v : List Record). lines_from (lines_shown ds) v (posted ds g n turn))
      (written_then (lifetime ds).kept (lifetime ds).since)
      ∙ post_lines n turn (learning (lines_shown ds) (view_given g (turn_deeds n turn))) (records_in ds)

  -- in the order in which they joined

  abbrev view : List Line
  view = view_given g (turn_deeds n turn)

  abbrev pub arrived_then : List Line
  arrived_then =
      option_map_or (arrived_written (all_arrived ds ++ unknown (lines_shown ds) view) (learning (lines_shown ds) view)
      (records_in ds)) turn.write (all_arrived ds ++ unknown (lines_shown ds) view)

  pub more_arrived : all_arrived (ds ++ posted ds g n turn) ≡ arrived_then
  more_arrived =
      ap (λ (l : Lifetime). arrived_from (risen_with (recorded_by l.kept)) (recorded_by l.kept) l.kept l.since)
      (life_goes_on ds g n turn)
      ∙ arrived-more (posted ds g n turn) refl (risen_with (recorded_by (lifetime ds).kept))
      (recorded_by (lifetime ds).kept) (lifetime ds).kept (lifetime ds).since
      ∙ ap (λ (v : List Record). arrived_from (all_arrived ds) (lines_shown ds) v (posted ds g n turn))
      (written_then (lifetime ds).kept (lifetime ds).since)
      ∙ post_arrived n turn (all_arrived ds ++ unknown (lines_shown ds) view) (learning (lines_shown ds) view)
      (records_in ds)

  -- those that the records give
  abbrev pub recorded_then : Lines
  recorded_then = option_map_or (with_given (recorded_by (records_in ds)) (records_in ds)) turn.write
      (recorded_by (records_in ds))

  pub more_recorded : recorded_by (records_in (ds ++ posted ds g n turn)) ≡ recorded_then
  more_recorded =
      ap recorded_by (all_records ds g n turn) ∙ recorded-more no_lines [] (records_in ds) (option_to_list turn.write)
      ∙ by turn.write
    where
      by : (w : Option Record) → recorded_from (recorded_by (records_in ds)) (records_in ds) (option_to_list w)
          ≡ option_map_or (with_given (recorded_by (records_in ds)) (records_in ds)) w (recorded_by (records_in ds))
      by None = refl
      by (Some w) = refl

-- what the log began with

given_began : (l m : Lines) (w : Record) (before : List Record) (lines : List Line) → l.began ≡ m.began
    → (option_map_or (λ (i : EpochStart). begun_with_lines i.lines) (install_in w) (learning l lines)).began ≡
    (with_given m before w).began
given_began l m w before lines same = by (install_in w) (prepare_in w)
  where
    by : (o : Option EpochStart) (p : Option Prepared)
        → (option_map_or (λ (i : EpochStart). begun_with_lines i.lines) o (learning l lines)).began
        ≡ (option_map_or (λ (i : EpochStart). begun_with_lines i.lines) o
        (option_map_or (λ (q : Prepared). record m { since = union m.since q.lines }) p
        (learning m (lines_done before w)))).began
    by (Some i) p = refl
    by None None = same
    by None (Some q) = same

began_from : (l m : Lines) (before rs : List Record) (xs : List Deed) → l.began ≡ m.began
    → (lines_from l before xs).began ≡ (recorded_from m rs (filter_map written_in xs)).began
began_from l m before rs [] same = same
began_from l m before rs (d ∷ xs) same =
    by (written_in d) (λ (u v : Lines) (us vs : List Record). began_from u v us vs xs)
  where
    by : (o : Option Record) → ((u v : Lines) (us vs : List Record) → u.began ≡ v.began
        → (lines_from u us xs).began ≡ (recorded_from v vs (filter_map written_in xs)).began)
        → (lines_from (option_map_or (λ (i : EpochStart). begun_with_lines i.lines) (option_and_then install_in o)
        (learning l (joining before d xs))) (with_written before d) xs).began
        ≡ (recorded_from m rs (cons_option o (filter_map written_in xs))).began
    by None rest = rest (learning l (joining before d xs)) m (with_written before d) rs same
    by (Some w) rest = rest (option_map_or (λ (i : EpochStart). begun_with_lines i.lines) (install_in w)
        (learning l (joining before d xs))) (with_given m rs w) (with_written before d) (rs ++ w ∷ [])
        (given_began l m w rs (joining before d xs) same)

pub began_shows : (ds : List Deed) → (lines_shown ds).began ≡ (recorded_by (records_in ds)).began
began_shows ds =
    began_from (recorded_by (lifetime ds).kept) (recorded_by (lifetime ds).kept) (lifetime ds).kept (lifetime ds).kept
    (lifetime ds).since refl
    ∙ ap (λ (l : Lines). l.began) (sym (recorded-more no_lines [] (lifetime ds).kept
    (filter_map written_in (lifetime ds).since)))
