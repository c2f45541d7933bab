-- One more input that a site takes, and the turn that it posts then: its life goes on, its records and its clock, and
-- what it has promised then.
use Rattle.std.proofs.Common.{◌≡◌, ℕ, max, List, ◌∷◌, ◌++◌, refl, sym, ap, ◌∙◌, append_assoc}
use Rattle.std.specs.Prelude.{filter, fold, option_to_list}
use Rattle.std.specs.List.{flat_map}
use Rattle.std.proofs.lemmas.Grind.{flat_map-append}
use Rattle.std.proofs.lemmas.List.Elements.{filter-append}
use Rattle.std.proofs.lemmas.List.Sums.{fold-append}
use Rattle.qc_entry.specs.declared.record.Prepared.{Prepared}
use Rattle.qc_msg.specs.declared.record.Record.{Record}
use Rattle.qc_msg.specs.declared.step.Input.{Input}
use Rattle.qc_msg.specs.declared.turn.Turn.{Turn}
use Rattle.qc_msg.specs.Vocabulary.{Deed, Takes, turn_deeds}
use Rattle.qc_promise.specs.Vocabulary.{Lifetime, clock_shown, clocks_at, clocks_in_record, left_of, lifetime}
use Rattle.qc_promise.specs.Vocabulary.{prepared_shown, promises_of, promises_since, records_in}
use Rattle.qc_promise.proofs.Lifetimes.{AreNoRises, lived, lives_on, more_records}
use Rattle.qc_core.proofs.SiteGrowth.{lasts, left-more, prepared-more}
use Rattle.qc_core.proofs.SitePosts.{clocks_by, post_clocks, post_prepares, post_records, post_rises, promises_by}

-- the clocks that an input brings
abbrev pub clocks_given : Input → List ℕ
clocks_given g = clocks_at (Takes g)

module _ (ds : List Deed) (g : Input) (n : ℕ) (turn : Turn) where
  abbrev pub posted : List Deed
  posted = Takes g ∷ turn_deeds n turn

  no_rise : AreNoRises posted
  no_rise = (refl, post_rises n turn)

  pub life_goes_on : lifetime (ds ++ posted) ≡ lived (lifetime ds) posted
  life_goes_on = lives_on ds posted no_rise

  pub all_records : records_in (ds ++ posted) ≡ records_in ds ++ option_to_list turn.write
  all_records = more_records ds posted no_rise ∙ ap (λ (v : List Record). records_in ds ++ v) (post_records n turn)

  pub by_records : {A : Type 0} (f : A → Record → A) (a : A)
      → fold f a (records_in (ds ++ posted)) ≡ fold f (fold f a (records_in ds)) (option_to_list turn.write)
  by_records {A = A} f a = ap (λ (v : List Record). fold f a v) all_records
      ∙ fold-append f a (records_in ds) (option_to_list turn.write)

  abbrev pub clock_then : ℕ
  clock_then = fold max (fold max (clock_shown ds) (clocks_given g)) (clocks_by turn.write)

  pub more_clock : clock_shown (ds ++ posted) ≡ clock_then
  more_clock =
      ap (λ (l : Lifetime). fold max 0 (flat_map clocks_in_record l.kept ++ flat_map clocks_at l.since)) life_goes_on
      ∙ ap (λ (v : List ℕ). fold max 0 (flat_map clocks_in_record (lifetime ds).kept ++ v))
      (flat_map-append clocks_at (lifetime ds).since posted
      ∙ ap (λ (v : List ℕ). flat_map clocks_at (lifetime ds).since ++ (clocks_given g ++ v)) (post_clocks n turn))
      ∙ ap (λ (v : List ℕ). fold max 0 v) (sym
      (append_assoc (flat_map clocks_in_record (lifetime ds).kept) (flat_map clocks_at (lifetime ds).since)
      (clocks_given g ++ clocks_by turn.write)))
      ∙ fold-append max 0 (flat_map clocks_in_record (lifetime ds).kept ++ flat_map clocks_at (lifetime ds).since)
      (clocks_given g ++ clocks_by turn.write)
      ∙ fold-append max (clock_shown ds) (clocks_given g) (clocks_by turn.write)

  abbrev pub prepared_then : List Prepared
  prepared_then = filter (lasts posted) (prepared_shown ds) ++ promises_by turn.write

  pub more_prepared : prepared_shown (ds ++ posted) ≡ prepared_then
  more_prepared =
      ap (λ (l : Lifetime). left_of l.since (promises_of l.kept) ++ promises_since l.since) life_goes_on
      ∙ ap (λ (v : List Prepared). v ++ promises_since ((lifetime ds).since ++ posted))
      (left-more posted (lifetime ds).since (promises_of (lifetime ds).kept))
      ∙ ap (λ (v : List Prepared). filter (lasts posted) old ++ v)
      (prepared-more posted (lifetime ds).since
      ∙ ap (λ (v : List Prepared). filter (lasts posted) new ++ v) (post_prepares n turn))
      ∙ sym (append_assoc (filter (lasts posted) old) (filter (lasts posted) new) (promises_by turn.write))
      ∙ ap (λ (v : List Prepared). v ++ promises_by turn.write) (sym (filter-append (lasts posted) old new))
    where
      old : List Prepared
      old = left_of (lifetime ds).since (promises_of (lifetime ds).kept)

      new : List Prepared
      new = promises_since (lifetime ds).since
