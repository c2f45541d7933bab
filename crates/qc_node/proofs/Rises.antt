-- A restart in a cell: what its calls ask, and what is known of the process once the actor rose, or stays down.
use Rattle.std.proofs.Common.{◌≡◌, ℕ, ◌+◌, ◌^◌, ◌<◌, ◌≤◌, Bool, true, List, [], ◌∷◌, ◌++◌, length, Option, None, refl}
use Rattle.std.proofs.Common.{sym, ap, ◌∙◌, subst, arith, append_assoc}
use Rattle.std.specs.Prelude.{IfSome}
use Rattle.std.specs.List.{AllByRecursion as Every}
use Rattle.std.proofs.lemmas.Bool.{and_parts}
use Rattle.std.proofs.lemmas.List.{append-nil}
use Rattle.laws_bounds.specs.Vocabulary.{AllFit, IsRisingShort}
use Rattle.laws_bounds.proofs.AtOnce.{risen_sent}
use Rattle.laws_bounds.proofs.Rising.{risen_asks_few, risen_turn_short}
use Rattle.qc_core.specs.declared.actor.Actor.{Actor}
use Rattle.qc_core.specs.declared.actor.Actor.TheVariants as actors_of
use Rattle.qc_core.specs.Vocabulary.{ActorMove, AsksFew, IsLawfulWithFalls, actor_after, actor_rises, actor_sent, moved}
use Rattle.qc_core.proofs.LivesOfActors.{falls, rises}
use Rattle.qc_core.proofs.Written.{after_written}
use Rattle.qc_epoch.specs.Vocabulary.{most_asks}
use Rattle.qc_decl.specs.Vocabulary.{actors}
use Rattle.qc_decl.specs.declared.declaration.Declaration.{Declaration}
use Rattle.qc_fit.specs.Vocabulary.{fits}
use Rattle.qc_link.specs.Vocabulary.{most_actors}
use Rattle.qc_list.proofs.Members.{every-weaker}
use Rattle.qc_msg.specs.Vocabulary.{Deed, Entry, HasRecord, MayEnd, Rises as RisesDeed, by, deeds, deeds_as, mail}
use Rattle.qc_msg.specs.Vocabulary.{posted_as}
use Rattle.qc_msg.proofs.GrownMail.{length-mail}
use Rattle.qc_msg.specs.declared.record.Record.{Record}
use Rattle.qc_msg.specs.declared.step.Step.{Step}
use Rattle.qc_msg.specs.declared.step.Step.TheVariants as steps
use Rattle.qc_msg.specs.declared.turn.Appended.{Appended}
use Rattle.qc_msg.specs.declared.turn.Appended.TheVariants.{Done, Failed, Stopped}
use Rattle.qc_msg.specs.declared.turn.Posting.{Posting}
use Rattle.qc_msg.specs.declared.turn.Turn.{Turn}
use Rattle.qc_pass.specs.declared.token.Pass.{Pass}
use Rattle.qc_pass.specs.Vocabulary.{number, seen}
use Rattle.qc_process.specs.Vocabulary.{Goes, HasFewRecords, HasRisen, IsLegalPending, IsProcess, IsStored, OpenJournal}
use Rattle.qc_process.specs.Vocabulary.{OpensAs, ProcessView, Spells, StaysDown, StoreView, all_fit}
use Rattle.qc_promise.specs.Vocabulary.{IsOfOthers}
use Rattle.qc_script.specs.declared.script.Script.{Script}
use Rattle.qc_fabric.specs.Vocabulary.{GoesToActors, IsRising, RisesAs, Sees, size_of_rising}
use Rattle.qc_fabric.specs.declared.rising.Rising.{Rising}
use Rattle.qc_fabric.specs.declared.rising.Rising.TheVariants as risings
use Rattle.qc_node.specs.Vocabulary.{Appends, IsAppended, IsRecorded, fits_of, opened_of, with_end}
use Rattle.qc_node.proofs.ServedStores.{saw_goes, stored_over_others}
use Rattle.qc_node.proofs.Turned.{same_deeds, same_record, turned}
use Rattle.qc_node.proofs.Turns.{turn_is_lawful}

-- a process, while others do something

pub process_over_others : (tells : Bool) (decl : Declaration) (p q : Pass Step) (pr : ProcessView) → Sees p q
    → IsProcess tells decl (number p) (seen p) pr → IsProcess tells decl (number q) (seen q) pr
process_over_others tells decl p q pr saw is =
    subst (λ (n : ℕ). IsProcess tells decl n (seen q) pr) (sym saw.pass.number_is)
    (record {
      number_is = is.number_is;
      actor_is = is.actor_is ∙ ap (λ (ds : List Deed). (actor_after decl (number p) ds).actor) (sym saw.does);
      stored =
          stored_over_others tells decl (number p) (seen p) (seen q) pr.store pr.store refl refl refl (saw_goes p q saw)
          is.stored;
    })

-- records that are read as fitting fit

each_fits : (decl : Declaration) (a n : ℕ) (rs : List Record) → all_fit decl a n rs ≡ true → AllFit decl a n rs
each_fits decl a n [] is = tt
each_fits decl a n (r ∷ rs) is =
    let both = and_parts (fits decl a n r) (all_fit decl a (n + 1) rs) is in
    (both.0, each_fits decl a (n + 1) rs both.1)

-- the room is that of the rise, whatever became of its record

pub same_size : (end : Appended) (rising : Rising) → size_of_rising (with_end end rising) ≡ size_of_rising rising
same_size end (risings.Rose records turn) = refl
same_size end (risings.Damaged offset) = refl
same_size end (risings.NotOpened cause) = refl

closed_few : (s : StoreView) → s.journal ≡ None → HasFewRecords s
closed_few s closed =
    subst (λ (o : Option OpenJournal). IfSome o (λ (p : OpenJournal). p.records < 2 ^ 32)) (sym closed) tt

module _ (tells : Bool) (decl : Declaration) (script : Script) (q : Pass Step) (low : number q < actors decl)
    (old : ProcessView) (known : IsProcess tells decl (number q) (seen q) old) (opened : ProcessView) where
  abbrev a : ℕ
  a = number q

  abbrev ds : List Deed
  ds = deeds a [] (seen q)

  -- it rose

  module _ (records : List Record) (turn : Turn) (risen : HasRisen decl old opened records turn) where
    abbrev ended : Appended → Turn
    ended end = record turn { append = end }

    is_number : opened.number ≡ a
    is_number = risen.number_is ∙ known.number_is

    move_is : actor_after decl a (ds ++ RisesDeed records ∷ []) ≡ moved opened.actor turn
    move_is =
        rises decl a ds records
        ∙ subst (λ (n : ℕ). actor_rises decl n records ≡ moved opened.actor turn) is_number risen.rises

    written : turn.append ≡ Done
    written =
        ap (λ (m : ActorMove). m.turn.append) (sym move_is) ∙ after_written decl a (ds ++ RisesDeed records ∷ [])

    has_record : HasRecord turn.write
    has_record = subst HasRecord (sym risen.write_is) tt

    may_end : (end : Appended) → MayEnd turn.write end
    may_end Done = tt
    may_end Failed = has_record
    may_end Stopped = has_record

    lawful : (end : Appended) → IsLawfulWithFalls decl a (ds ++ RisesDeed records ∷ []) (ended end)
    lawful end =
        turn_is_lawful decl a (ds ++ RisesDeed records ∷ []) (ended end) low
        (ap (λ (m : ActorMove). m.turn) move_is ∙ sym (same_record turn written)) (may_end end)

    fit : AllFit decl a 0 records
    fit = subst (λ (n : ℕ). AllFit decl n 0 records) is_number (each_fits decl opened.number 0 records risen.fit)

    to_actors : (few : actors decl ≤ most_actors) (end : Appended) → GoesToActors (ended end)
    to_actors few end =
        let short : IsRisingShort decl records (ended end) =
        risen_turn_short decl a ds records (ended end) fit (lawful end) in
        record {
          sends =
              every-weaker (λ (p : Posting). p.to < actors decl) (λ (p : Posting). p.to < most_actors)
              (λ p below. omega (arith, below, few)) turn.sends short.receivers;
          failed_sends = subst (Every (λ (p : Posting). p.to < most_actors)) (sym short.failed_sends) tt;
        }

    pub rose_lawful : (few : actors decl ≤ most_actors) (end : Appended)
        → IsRising (IsLawfulWithFalls decl) (fits_of decl) a (seen q) (risings.Rose records (ended end))
    rose_lawful few end = ((fit, risen.legal), has_record, to_actors few end, lawful end)

    rose_asks : AsksFew opened.actor
    rose_asks = subst (λ (m : ActorMove). AsksFew m.actor) move_is (risen_asks_few decl a ds records)

    pub rose_few : (end : Appended) (new : ProcessView) → Appends opened new end → AsksFew new.actor
    rose_few Done new appends = subst AsksFew (sym (appends.stays refl)) rose_asks
    rose_few Failed new appends =
        subst AsksFew (sym (appends.falls (λ is. let no : ⊥ = cc in no))) tt
    rose_few Stopped new appends =
        subst AsksFew (sym (appends.falls (λ is. let no : ⊥ = cc in no))) tt

    module _ (end : Appended) (new : ProcessView) (appends : Appends opened new end) (r : Pass Step) (first : ℕ)
        (did : RisesAs (IsLawfulWithFalls decl) (fits_of decl) decl script q r (risings.Rose records (ended end)) first)
      where
        actor_then : (actor_after decl a (deeds a [] (seen r))).actor ≡ actor_sent new.actor first
        actor_then =
            ap (λ (l : List Deed). (actor_after decl a l).actor)
            (did.does
            ∙ (ap (λ (l : List Deed). ds ++ RisesDeed records ∷ l) (same_deeds end first turn)
            ∙ sym (append_assoc ds (RisesDeed records ∷ []) (deeds_as end first turn))))
            ∙ turned decl a (ds ++ RisesDeed records ∷ []) turn first opened.actor
            (ap (λ (m : ActorMove). m.actor) move_is)
            (risen_sent decl a ds records (ended Done) first (lawful Done)) end new.actor appends.stays appends.falls

        abbrev between : List Entry
        between = (seen q ++ did.others) ++ by a (steps.Rose records ∷ [])

        rose_goes : Goes a (seen q) (steps.Rose records ∷ []) between
        rose_goes = record { others = did.others; not_own = did.not_own; now_is = refl }

        post_goes : Goes a between (posted_as end first (ended end)) (seen r)
        post_goes = record {
          others = [];
          not_own = tt;
          now_is =
              did.seen_is
              ∙ (sym (append_assoc (seen q ++ did.others) (by a (steps.Rose records ∷ []))
              (by a (posted_as end first (ended end))))
              ∙ ap (λ (l : List Entry). l ++ by a (posted_as end first (ended end))) (sym (append-nil between)));
        }

        spells : Spells (ended end) opened.store
        spells = record { legal = subst IsLegalPending (sym risen.write_is) refl; spelling_is = risen.waits }

        pub rose_process : IsProcess tells decl (number r) (seen r)
            (record { number = new.number; actor = actor_sent new.actor first; store = new.store })
        rose_process =
            subst (λ (n : ℕ). IsProcess tells decl n (seen r)
            (record { number = new.number; actor = actor_sent new.actor first; store = new.store }))
            (sym did.pass.number_is)
            (record {
              number_is = appends.number ∙ is_number;
              actor_is = sym actor_then;
              stored =
                  appends.goes tells decl a between (seen r) (ended end) first spells post_goes
                  (subst (λ (n : ℕ). Goes n (seen q) (steps.Rose records ∷ []) between
                  → IsStored tells decl n (seen q) old.store → IsStored tells decl n between opened.store)
                  is_number (risen.goes tells (seen q) between) rose_goes known.stored);
            })

  -- it stays down

  module _ (own : List Step) (stays : StaysDown decl old opened own) (down : old.actor ≡ actors_of.Down)
      (r : Pass Step) (first : ℕ) (others : List Entry) (not_own : IsOfOthers a others)
      (same : number r ≡ a) (seen_is : seen r ≡ (seen q ++ others) ++ by a own)
      (is_down : (actor_after decl a (deeds a [] (seen r))).actor ≡ actors_of.Down) where
    pub down_process : IsProcess tells decl (number r) (seen r)
        (record { number = opened.number; actor = actor_sent opened.actor first; store = opened.store })
    down_process =
        subst (λ (n : ℕ). IsProcess tells decl n (seen r)
        (record { number = opened.number; actor = actor_sent opened.actor first; store = opened.store }))
        (sym same)
        (record {
          number_is = stays.number_is ∙ known.number_is;
          actor_is = ap (λ (v : Actor). actor_sent v first) stays.actor_is ∙ sym is_down;
          stored =
              subst (λ (n : ℕ). Goes n (seen q) own (seen r)
              → IsStored tells decl n (seen q) old.store → IsStored tells decl n (seen r) opened.store)
              (stays.number_is ∙ known.number_is) (stays.goes tells (seen q) (seen r))
              (record { others = others; not_own = not_own; now_is = seen_is }) known.stored;
        })

  -- whatever it found

  -- a record may be written
  pub few_as : (rising : Rising) → OpensAs decl old opened (opened_of rising) → HasFewRecords opened.store
  few_as (risings.Rose records turn) is = is.few
  few_as (risings.Damaged offset) is = closed_few opened.store is.0.is_down
  few_as (risings.NotOpened cause) is = closed_few opened.store is.0.is_down

  module _ (down : old.actor ≡ actors_of.Down) (few : actors decl ≤ most_actors) where
    lawful_as : (rising : Rising) (end : Appended) → OpensAs decl old opened (opened_of rising)
        → IsRising (IsLawfulWithFalls decl) (fits_of decl) a (seen q) (with_end end rising)
    lawful_as (risings.Rose records turn) end is = rose_lawful records turn is few end
    lawful_as (risings.Damaged offset) end is = tt
    lawful_as (risings.NotOpened cause) end is = is.1

    asks_as : (rising : Rising) (end : Appended) (new : ProcessView) → OpensAs decl old opened (opened_of rising)
        → IsAppended opened new rising end → AsksFew new.actor
    asks_as (risings.Rose records turn) end new is appends = rose_few records turn is end new appends
    asks_as (risings.Damaged offset) end new is same =
        subst AsksFew (sym (ap (λ (p : ProcessView). p.actor) same ∙ is.0.actor_is)) tt
    asks_as (risings.NotOpened cause) end new is same =
        subst AsksFew (sym (ap (λ (p : ProcessView). p.actor) same ∙ is.0.actor_is)) tt

    known_down : (actor_after decl a ds).actor ≡ actors_of.Down
    known_down = sym known.actor_is ∙ down

    process_as : (rising : Rising) (end : Appended) (new : ProcessView) (r : Pass Step) (first : ℕ)
        → OpensAs decl old opened (opened_of rising) → IsAppended opened new rising end
        → RisesAs (IsLawfulWithFalls decl) (fits_of decl) decl script q r (with_end end rising) first
        → IsProcess tells decl (number r) (seen r)
        (record { number = new.number; actor = actor_sent new.actor first; store = new.store })
    process_as (risings.Rose records turn) end new r first is appends did =
        rose_process records turn is end new appends r first did
    process_as (risings.Damaged offset) end new r first is same did =
        subst (λ (p : ProcessView). IsProcess tells decl (number r) (seen r)
        (record { number = p.number; actor = actor_sent p.actor first; store = p.store })) (sym same)
        (down_process (steps.Damaged offset ∷ []) is.0 down r first did.others did.not_own did.pass.number_is
        did.seen_is
        (ap (λ (l : List Deed). (actor_after decl a l).actor) (did.does ∙ append-nil ds) ∙ known_down))
    process_as (risings.NotOpened cause) end new r first is same did =
        subst (λ (p : ProcessView). IsProcess tells decl (number r) (seen r)
        (record { number = p.number; actor = actor_sent p.actor first; store = p.store })) (sym same)
        (down_process (steps.Fell cause None ∷ []) is.0 down r first did.others did.not_own did.pass.number_is
        did.seen_is
        (ap (λ (l : List Deed). (actor_after decl a l).actor) did.does
        ∙ ap (λ (m : ActorMove). m.actor) (falls decl a ds cause None)))

    -- what was recorded

    module _ (rising result : Rising) (new : ProcessView) (is : OpensAs decl old opened (opened_of rising))
        (recorded : IsRecorded opened new rising result) where
      pub risen_room : (spare : ℕ) → spare ≡ size_of_rising rising → spare ≡ size_of_rising result
      risen_room spare room =
          room ∙ sym (ap size_of_rising recorded.result_is ∙ same_size recorded.end rising)

      pub risen_lawful : IsRising (IsLawfulWithFalls decl) (fits_of decl) a (seen q) result
      risen_lawful =
          subst (IsRising (IsLawfulWithFalls decl) (fits_of decl) a (seen q)) (sym recorded.result_is)
          (lawful_as rising recorded.end is)

      pub risen_asks : AsksFew new.actor
      risen_asks = asks_as rising recorded.end new is recorded.appends

      module _ (r : Pass Step) (first : ℕ)
          (did : RisesAs (IsLawfulWithFalls decl) (fits_of decl) decl script q r result first) where
        pub risen_numbers : first + most_asks < 2 ^ 32
        risen_numbers =
            let less : length (mail (seen q ++ did.others)) ≤ length (seen q ++ did.others) =
            length-mail (seen q ++ did.others) in
            omega (arith, did.first_is, less, did.few)

        pub risen_process : IsProcess tells decl (number r) (seen r)
            (record { number = new.number; actor = actor_sent new.actor first; store = new.store })
        risen_process =
            process_as rising recorded.end new r first is recorded.appends
            (subst (λ (x : Rising). RisesAs (IsLawfulWithFalls decl) (fits_of decl) decl script q r x first)
            recorded.result_is did)
