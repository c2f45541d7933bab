-- What is taken while a `do` reads: the first thing for an open request counts, all else changes nothing.
use Rattle.std.proofs.Common.{◌≡◌, ℕ, false, List, filter, max, Option, Some, None, option_map, refl, sym, ap, ◌∙◌}
use Rattle.std.proofs.Common.{subst, arith}
use Rattle.std.specs.List.{find, AllByRecursion as Every}
use Rattle.qc_list.proofs.Members.{every-In, every-weaker}
use Rattle.qc_decl.specs.declared.declaration.Declaration.{Declaration}
use Rattle.qc_decl.specs.Vocabulary.{read_need_of}
use Rattle.qc_plan.specs.Vocabulary.{RoundState, all_noted, note}
use Rattle.qc_view.specs.declared.view.View.{View}
use Rattle.qc_commit.specs.declared.desk.Desk.{Desk}
use Rattle.qc_front.specs.declared.doing.Doing.TheVariants.{Reading}
use Rattle.qc_front.specs.declared.front.Front.{Front}
use Rattle.qc_front.specs.declared.transaction.Transaction.{Transaction}
use Rattle.qc_front.specs.Vocabulary.{RecordsHold, learns, read_counts, read_with, reading_takes, takes, with_granted}
use Rattle.qc_front.specs.Vocabulary.{lived as front_lived}
use Rattle.qc_front.specs.Rounds as fronts
use Rattle.qc_front.proofs.Recording.{read_recorded}
use Rattle.qc_client.specs.declared.client.Client.{Client}
use Rattle.qc_client.specs.Vocabulary.{by_front}
use Rattle.qc_msg.specs.declared.call.Call.{Call}
use Rattle.qc_msg.specs.declared.message.Answer.{Answer}
use Rattle.qc_msg.specs.declared.message.Answer.TheVariants as answers
use Rattle.qc_msg.specs.declared.message.Want.{Want}
use Rattle.qc_msg.specs.declared.message.Want.TheVariants.{Read}
use Rattle.qc_msg.specs.Vocabulary.{without_call, first_read, closed_in, granted_in, promised_in}
use Rattle.qc_promise.specs.Vocabulary.{Account, ClientRequest, Current, counted, counted_for, is_open, is_read, lived}
use Rattle.qc_promise.specs.Vocabulary.{read_row, standing_of, taken_for, told_by, with_read}
use Rattle.laws_due.specs.Vocabulary.{AreApart, Goes, IsBegun, IsOpenIn, calls_in, front_of, transaction_of}
use Rattle.laws_due.proofs.DoRows.{Runs, due_do, run}
use Rattle.laws_due.proofs.ReadRequests.{IsRead, open_read}
use Rattle.laws_due.proofs.DoReads.{reads_go, reads_tie}
use Rattle.laws_due.proofs.Halves.{round_at, round_taken, waiting_verdict}
use Rattle.laws_due.proofs.OpenRequests.{calls_taken, every_taken, find_call, found, numbers_open, sites_in}
use Rattle.laws_due.proofs.Turns.{desk_kept, still_goes}
use Rattle.laws_due.proofs.Views.{granted_begun}
use Rattle.laws_due.proofs.TakenCases.{learned_of, taken_cases, told_of}
use Rattle.std.specs.Option.{option_map_or}
use Rattle.qc_msg.specs.declared.payload.Grant.{Grant}
use Rattle.std.specs.Prelude.{option_and_then}

module _ (decl : Declaration) (number : ℕ) (d : Account) (desk : Desk) (t : Current) (asked : List ℕ)
    (views : List View) (object inv : ℕ) (k : Runs decl d desk t views)
    (qs : List ClientRequest) (all : Every (IsRead object inv) qs)
    (sites : AreApart (sites_in (filter (λ (q : ClientRequest). is_read q.want) qs)))
    (numbers : AreApart (numbers_open qs))
    (awaits : all_noted (round_at decl d t is_read (read_need_of decl t.epoch object inv) qs).asked ≡ false) where
  abbrev pub x : Transaction
  x = transaction_of t asked views

  abbrev pub round : RoundState
  round = round_at decl d t is_read (read_need_of decl t.epoch object inv) qs

  abbrev pub now : Front
  now = front_of d (Some x) (Reading object inv (calls_in qs) round)

  abbrev pub here : Client
  here = record { front = now; desk = desk }

  -- with what was learned, the round goes on
  on_with : (e : Account) (u : Current) (asked_now : List ℕ) (views_now : List View) → Runs decl e desk u views_now
      → ((rs : List ClientRequest)
      → round_at decl e u is_read (read_need_of decl u.epoch object inv) rs
      ≡ round_at decl d t is_read (read_need_of decl t.epoch object inv) rs)
      → (n : ℕ) (answer : Option Answer) (q : ClientRequest) → find (is_open n) qs ≡ Some q
      → Goes decl number (run e u object inv (taken_for n answer qs))
      (by_front here
      (fronts.reads decl (front_of e (Some x) (Reading object inv (calls_in qs) round))
      (transaction_of u asked_now views_now) object inv (without_call (calls_in qs) n)
      (note round q.site (standing_of answer))))
  on_with e u asked_now views_now kept same n answer q is =
      subst (λ (m : List Call × RoundState). Goes decl number (run e u object inv (taken_for n answer qs))
      (by_front here
      (fronts.reads decl (front_of e (Some x) (Reading object inv (calls_in qs) round))
      (transaction_of u asked_now views_now) object inv m.0 m.1)))
      (λ i. (sym (calls_taken n answer qs) i, (same (taken_for n answer qs) ∙ sym noted) i))
      (reads_go decl number e desk u asked_now views_now object inv kept (taken_for n answer qs) now (Some x)
      (Reading object inv (calls_in qs) round) (every_taken (IsRead object inv) n answer (λ r w. w) qs all))
    where
      noted : note round q.site (standing_of answer)
          ≡ round_at decl d t is_read (read_need_of decl t.epoch object inv) (taken_for n answer qs)
      noted =
          round_taken decl d t is_read (read_need_of decl t.epoch object inv) n answer q qs
          (every-weaker (IsRead object inv) (IsOpenIn is_read) (open_read object inv) qs all) sites numbers is

  stays : (n : ℕ) (answer : Option Answer) (q : ClientRequest) → find (is_open n) qs ≡ Some q
      → Goes decl number (run d t object inv (taken_for n answer qs))
      (by_front here (fronts.reads decl now x object inv (without_call (calls_in qs) n)
      (note round q.site (standing_of answer))))
  stays n answer q is = on_with d t asked views k (λ rs. refl) n answer q is

  closes : (n epoch : ℕ) (q : ClientRequest) → find (is_open n) qs ≡ Some q
      → Goes decl number
      (run (record d { known = max d.known epoch }) t object inv (taken_for n (Some (answers.Closed epoch)) qs))
      (by_front here
      (fronts.reads decl (learns now (Some (answers.Closed epoch))) x object inv (without_call (calls_in qs) n)
      (note round q.site (standing_of (Some (answers.Closed epoch))))))
  closes n epoch q is =
      on_with (record d { known = max d.known epoch }) t asked views kept (λ rs. refl) n (Some (answers.Closed epoch)) q
      is
    where
      kept : Runs decl (record d { known = max d.known epoch }) desk t views
      kept =
          record {
            live = k.live;
            room = k.room;
            records = k.records;
            logs = k.logs;
            desk_is =
                desk_kept d (record d { known = max d.known epoch }) desk k.desk_is refl (omega arith) (omega arith);
          }

  grants : (n : ℕ) (g : Grant) (q : ClientRequest) → find (is_open n) qs ≡ Some q
      → Goes decl number
      (run (record d { clock = max d.clock g.clock }) (with_read (lived t q.site g.life) object g.log) object inv
      (taken_for n (Some (answers.Granted g)) qs))
      (by_front here
      (fronts.reads decl (learns now (Some (answers.Granted g)))
      (read_with x q.site object (Some (answers.Granted g))) object inv
      (without_call (calls_in qs) n)
      (note round q.site (standing_of (Some (answers.Granted g))))))
  grants n g q is =
      subst (λ (y : Transaction). Goes decl number
      (run e u object inv (taken_for n (Some (answers.Granted g)) qs))
      (by_front here
      (fronts.reads decl (learns now (Some (answers.Granted g))) y object inv
      (without_call (calls_in qs) n)
      (note round q.site (standing_of (Some (answers.Granted g)))))))
      (sym b.is) (on_with e u y.begun.asked y.views kept (λ rs. refl) n
      (Some (answers.Granted g)) q is)
    where
      e : Account
      e = record d { clock = max d.clock g.clock }

      u : Current
      u = with_read (lived t q.site g.life) object g.log

      y : Transaction
      y = with_granted (transaction_of (lived t q.site g.life) asked views) object g.log

      b : IsBegun (with_read (lived t q.site g.life) object g.log)
          (with_granted (transaction_of (lived t q.site g.life) asked views) object g.log)
      b = granted_begun (lived t q.site g.life) asked views object g.log k.logs

      kept : Runs decl (record d { clock = max d.clock g.clock }) desk (with_read (lived t q.site g.life) object g.log)
          (with_granted (transaction_of (lived t q.site g.life) asked views) object g.log).views
      kept = record {
        live = k.live;
        room = k.room;
        records =
            subst (λ (z : Transaction). RecordsHold decl z.views z.own z.begun.ops) b.is
            (read_recorded decl x q.site object (Some (answers.Granted g)) k.records);
        logs = b.logs;
        desk_is =
            desk_kept d (record d { clock = max d.clock g.clock }) desk k.desk_is refl (omega arith) (omega arith);
      }

  counts_go : (n : ℕ) (q : ClientRequest) → find (is_open n) qs ≡ Some q → q.want ≡ Read (first_read object inv)
      → (answer : Option Answer)
      → Goes decl number (told_by (run d t object inv (taken_for n answer qs)) q answer)
      (by_front here (read_counts decl (learns now answer) x object inv (calls_in qs) round n q.site answer))
  counts_go n q is want answer =
      subst
      (λ (w : Want). Goes decl number
      (told_of (run d t object inv (taken_for n answer qs)) q.site w (option_and_then granted_in answer)
      (option_and_then closed_in answer) (option_and_then promised_in answer))
      (by_front here (read_counts decl (learns now answer) x object inv (calls_in qs) round n q.site answer)))
      (sym want)
      (taken_cases
      (λ (o : Option Answer) (g : Option Grant) (c : Option ℕ) (y : Option ℕ). Goes decl number
      (told_of (run d t object inv (taken_for n o qs)) q.site (Read (first_read object inv)) g c y)
      (by_front here
      (fronts.reads decl (learned_of now g c)
      (option_map_or (λ (v : Grant). with_granted (front_lived x q.site v.life) object v.log) g x) object inv
      (without_call (calls_in qs) n) (note round q.site (standing_of o)))))
      (λ o. stays n o q is) (λ g. grants n g q is) (λ epoch. closes n epoch q is)
      (λ clock. stays n (Some (answers.Yes clock)) q is) answer)

  pub reading_goes : (n : ℕ) (answer : Option Answer)
      → Goes decl number (counted (run d t object inv qs) n answer) (by_front here (takes decl now n answer))
  reading_goes n answer =
      subst (λ (o : Option ℕ). Goes decl number (counted (run d t object inv qs) n answer)
      (by_front here (reading_takes decl now x object inv (calls_in qs) round n answer o))) (sym (find_call n qs))
      (by (find (is_open n) qs) refl)
    where
      by : (o : Option ClientRequest) → find (is_open n) qs ≡ o
          → Goes decl number (counted_for (run d t object inv qs) n answer o)
          (by_front here
          (reading_takes decl now x object inv (calls_in qs) round n answer
          (option_map (λ (q : ClientRequest). q.site) o)))
      by None is =
          still_goes decl number (run d t object inv qs) here
          (due_do decl d desk t views object inv qs k
          ∙ ap (read_row decl (run d t object inv qs) t object inv) (waiting_verdict round awaits))
          (reads_tie decl number d desk t asked views object inv k asked qs all)
      by (Some q) is = counts_go n q is (every-In (IsRead object inv) q qs all (found n qs q is).among) answer
