-- A site that knows, holds and has promised what is in form goes on so, sends such messages and writes such records,
-- which are no longer than a journal's record may be.
use Rattle.std.proofs.Common.{◌≡◌, ℕ, ◌<◌, ◌≤◌, ◌==◌, ◌&&◌, nat_le, nat_lt, not, Bool, true, false, List, [], ◌∷◌}
use Rattle.std.proofs.Common.{Option, Some, None, refl, arith, length}
use Rattle.std.specs.Prelude.{option_to_list}
use Rattle.std.specs.List.{AllByRecursion as Every}
use Rattle.std.proofs.lemmas.Bool.{leb-true, ltb-true}
use Rattle.qc_list.proofs.Members.{every-append, every-filter}
use Rattle.qc_list.proofs.Order.{ascends-filter}
use Rattle.qc_decl.specs.Vocabulary.{most_clients, most_record_bytes}
use Rattle.qc_decl.specs.declared.declaration.Declaration.{Declaration}
use Rattle.qc_entry.specs.Vocabulary.{IsAscending, has_line, is_current, line_cmp, lines_told, without}
use Rattle.qc_entry.specs.declared.line.Line.{Line}
use Rattle.qc_entry.specs.declared.record.Prepared.{Prepared}
use Rattle.qc_entry.proofs.Logs.{ascending-log}
use Rattle.qc_entry.proofs.Union.{ascending-union, every-union}
use Rattle.qc_lock.specs.declared.clash.Clash.{Clash as Conflict}
use Rattle.qc_lock.specs.declared.held.Held.{Held}
use Rattle.qc_lock.specs.Vocabulary.{held_of, is_held}
use Rattle.qc_lock.proofs.Order.{sorted-find}
use Rattle.qc_msg.specs.declared.message.Answer.{Answer}
use Rattle.qc_msg.specs.declared.message.Answer.TheVariants as says
use Rattle.qc_msg.specs.declared.message.Message.{Message}
use Rattle.qc_msg.specs.declared.message.Message.TheVariants as messages
use Rattle.qc_msg.specs.declared.message.Outcome.{Outcome}
use Rattle.qc_msg.specs.declared.message.Outcome.TheVariants.{Committed, Aborted, Active}
use Rattle.qc_msg.specs.declared.message.Want.{Want}
use Rattle.qc_msg.specs.declared.message.Want.TheVariants.{Append, Prepare, Read}
use Rattle.qc_msg.specs.Vocabulary.{epoch_length, prepare_length, quiet}
use Rattle.qc_record.specs.Vocabulary.{IsTx, IsWithin}
use Rattle.qc_site.specs.Vocabulary.{IsSiteSorted, SiteMove, SiteState, answers, clashing, closes, dropped, fault_of}
use Rattle.qc_site.specs.Vocabulary.{finishes, grants, installs, is_prepared, known, learned, lines_of, moved}
use Rattle.qc_site.specs.Vocabulary.{names_declared, names_object, prepares, promise_cmp, promise_of, promised}
use Rattle.qc_site.specs.Vocabulary.{arrived_of, arriving, fresh, requested, shut_answer, site_at, votes}
use Rattle.qc_site.proofs.RequestCases.{append_cases, choose, close_rows, fault_is, join_cases, read_cases}
use Rattle.qc_stamp.specs.declared.stamp.TxId.{TxId}
use Rattle.qc_stamp.specs.Vocabulary.{same_tx}
use Rattle.laws_bounds.proofs.Forms.{AnswerInForm, LineInForm, MessageInForm, OrdinalsInForm, PromiseInForm}
use Rattle.laws_bounds.proofs.Forms.{SendsInForm, StartInForm, VerdictInForm, WantInForm, WriteInForm}
use Rattle.laws_bounds.proofs.HeldInForm.{FoundInForm, HeldInForm, found_form, has_form, held_form, lines_form}
use Rattle.laws_bounds.proofs.HeldInForm.{promises_held}
pub use Rattle.laws_bounds.proofs.SiteForms.{SiteInForm, SiteMoveInForm}
use Rattle.laws_bounds.proofs.SiteCases.{site_cases}
use Rattle.laws_turns.proofs.ToldLines.{every-told}
use Rattle.laws_bounds.proofs.HeldNamed.{every-all_inserted}

module _ (decl : Declaration) (s : SiteState) (from number : ℕ) (w : SiteInForm s) where
  answered : (answer : Answer) → AnswerInForm answer → SiteMoveInForm (moved s (answers from number answer))
  answered answer here = record { site = w; sends = (here, tt); failed_sends = tt; write = tt }

  pub silent : SiteMoveInForm (moved s quiet)
  silent = record { site = w; sends = tt; failed_sends = tt; write = tt }

  clashed : (c : Conflict) → SiteMoveInForm (moved s (clashing decl from number c))
  clashed c = record { site = w; sends = (tt, (tt, tt)); failed_sends = tt; write = tt }

  all_known : Every LineInForm (known s)
  all_known = every-union LineInForm s.began s.log w.began w.log

  learns : (lines : List Line) → Every LineInForm lines → Every LineInForm (learned s lines)
  learns lines all =
      every-union LineInForm s.log (without lines s.began) w.log
      (every-filter LineInForm (λ (l : Line). not (has_line s.began l)) lines all)

  arrives : (lines : List Line) → Every LineInForm lines → Every LineInForm (arriving s lines)
  arrives lines all =
      every-append LineInForm s.arrived (fresh s lines) w.arrived
      (every-filter LineInForm (λ (l : Line). not (has_line s.log l)) (without lines s.began)
      (every-filter LineInForm (λ (l : Line). not (has_line s.began l)) lines all))

  module _ (sorted : IsSiteSorted s) where
    known_ascends : IsAscending (known s)
    known_ascends = ascending-union s.began s.log sorted.began sorted.log

    -- a promise

    made : (tx : TxId) → IsTx tx → prepare_length (promise_of s tx) ≤ most_record_bytes
        → SiteMoveInForm (moved (promised s (promise_of s tx)) (votes s from number (promise_of s tx)))
    made tx its short =
        let has : HeldInForm (held_of s.held tx) = has_form s.held tx w.held in
        let entry = sorted-find s.held tx sorted.held.sorted in
        record {
          site =
              record {
                epoch = w.epoch;
                began = w.began;
                log = w.log;
                arrived = w.arrived;
                held = w.held;
                prepared =
                    every-append PromiseInForm s.prepared (promise_of s tx ∷ []) w.prepared
                    (record { tx = its; locks = has.locks; own = has.own }, tt);
              };
          sends = (tt, tt);
          failed_sends = (tt, tt);
          write = (
            (
              record {
                tx = its;
                epoch = w.epoch;
                locks = has.locks;
                own = has.own;
                lines = record {
                  each_is = every-filter LineInForm (λ (l : Line). not (has_line s.recorded l)) s.log w.log;
                  ascend = ascends-filter line_cmp (λ (l : Line). not (has_line s.recorded l)) s.log sorted.log;
                };
                locks_ascend = entry.0;
                own_ascend = entry.1;
              },
              short,
            ),
            tt,
          );
        }

    promises_form : (tx : TxId) → IsTx tx → SiteMoveInForm (prepares s from number tx)
    promises_form tx its =
        choose SiteMoveInForm (not (is_held s.held tx)) _ _ (λ is. answered says.Stale tt)
        (λ is. choose SiteMoveInForm (is_prepared s.prepared tx) _ _ (λ stands. answered (says.Yes s.clock) tt)
        (λ apart. choose SiteMoveInForm (nat_le (prepare_length (promise_of s tx)) most_record_bytes) _ _
        (λ fits. made tx its (leb-true (prepare_length (promise_of s tx)) most_record_bytes fits))
        (λ long. answered says.Stale tt)))

    -- a request that is looked at

    granted : (tx : TxId) (want : Want) → IsTx tx → WantInForm want
        → SiteMoveInForm (grants decl s from number tx want)
    granted tx (Read read) its here =
        read_cases SiteMoveInForm decl s from number tx read
        (λ free. record {
          site =
              record {
                epoch = w.epoch;
                began = w.began;
                log = w.log;
                arrived = w.arrived;
                held =
                    held_form s.held tx (record { object = read.object; inv = read.inv } ∷ []) [] w.held
                    (record { object = here.object_is; inv = here.inv_is }, tt) tt;
                prepared = w.prepared;
              };
          sends = (
            record {
              each_is =
                  every-told LineInForm s.life s.epoch (arrived_of s read.object) read.mark
                  (every-filter LineInForm (λ (l : Line). l.object == read.object) s.arrived w.arrived);
              ascend =
                  ascending-log
                  (lines_told (is_current s.life s.epoch (length (arrived_of s read.object)) read.mark)
                  (arrived_of s read.object) read.mark.count);
            },
            tt,
          );
          failed_sends = tt;
          write = tt;
        })
        (λ c clash. clashed c)
    granted tx (Append object view own) its here =
        append_cases SiteMoveInForm decl s from number tx object view own
        (λ free. record {
          site =
              record {
                epoch = w.epoch;
                began = w.began;
                log = learns view here.0.each_is;
                arrived = arrives view here.0.each_is;
                held = held_form s.held tx [] own w.held tt here.1;
                prepared = w.prepared;
              };
          sends = (record { each_is = tt; ascend = tt }, tt);
          failed_sends = tt;
          write = tt;
        })
        (λ c clash. clashed c)
    granted tx Prepare its here = promises_form tx its

    -- a Decision

    without_tx : (tx : TxId) → SiteInForm (dropped s tx)
    without_tx tx = record {
      epoch = w.epoch;
      began = w.began;
      log = w.log;
      arrived = w.arrived;
      held = every-filter HeldInForm (λ (h : Held). not (same_tx h.tx tx)) s.held w.held;
      prepared = every-filter PromiseInForm (λ (q : Prepared). not (same_tx q.tx tx)) s.prepared w.prepared;
    }

    finished : (tx : TxId) (verdict : Outcome) → VerdictInForm tx verdict → SiteMoveInForm (finishes s tx verdict)
    finished tx (Committed stamp) here =
        join_cases SiteMoveInForm s tx stamp
        (λ none. record { site = without_tx tx; sends = tt; failed_sends = tt; write = tt })
        (λ p some. (let found : FoundInForm tx p = found_form s.prepared tx p w.prepared some in
        let rest : SiteInForm (dropped s tx) = without_tx tx in
        record {
          site = record {
            epoch = w.epoch;
            began = w.began;
            log = learns (lines_of stamp tx p.own) (lines_form stamp tx p.own here found.tx_is found.own);
            arrived = arrives (lines_of stamp tx p.own) (lines_form stamp tx p.own here found.tx_is found.own);
            held = rest.held;
            prepared = rest.prepared;
          };
          sends = tt;
          failed_sends = tt;
          write = (((found.tx_is, here.clock), tt), tt);
        }))
    finished tx Aborted here = record { site = without_tx tx; sends = tt; failed_sends = tt; write = tt }
    finished tx Active here = silent

    -- a message

    both_first : (x y : Bool) → (x && y) ≡ true → x ≡ true
    both_first true y is = refl
    both_first false y is = is

    requested_form : decl.clients ≤ most_clients → (tx : TxId) (epoch life : ℕ) (want : Want) → OrdinalsInForm tx
        → WantInForm want → SiteMoveInForm (site_at decl s from number (messages.Request tx epoch life want))
    requested_form few tx epoch life want its here =
        choose SiteMoveInForm (names_declared decl tx want)
        (requested decl s from number tx want (fault_of s epoch life))
        (moved s quiet)
        (λ is. by (fault_of s epoch life) refl
        (ltb-true tx.client decl.clients (both_first (nat_lt tx.client decl.clients) (names_object decl want) is)))
        (λ is. silent)
      where
        by : (o : Option Answer) → fault_of s epoch life ≡ o → tx.client < decl.clients
            → SiteMoveInForm (requested decl s from number tx want o)
        by (Some fault) is low = answered fault (fault_is AnswerInForm s epoch life tt (λ other. tt) tt fault is)
        by None is low =
            granted tx want
            (record {
              client = (let below : tx.client ≤ 15 = omega (arith, low, few) in below);
              life = its.life;
              number = its.number;
            }) here

    -- a Close tells all that the site knows and has promised; with an Install another epoch begins

    shut_form : AnswerInForm (shut_answer s)
    shut_form = (
      record { each_is = all_known; ascend = known_ascends },
      every-all_inserted PromiseInForm promise_cmp [] s.prepared tt w.prepared,
    )

    closed_form : (k : ℕ) → IsWithin 1 8 k → SiteMoveInForm (closes s from number k)
    closed_form k here =
        close_rows SiteMoveInForm s from number k (answered (says.Behind s.epoch) tt)
        (answered (says.Closed s.epoch) tt) (answered (shut_answer s) shut_form)
        (record {
          site = record {
            epoch = w.epoch;
            began = w.began;
            log = w.log;
            arrived = w.arrived;
            held = promises_held s.prepared w.prepared;
            prepared = w.prepared;
          };
          sends = (shut_form, tt);
          failed_sends = (tt, tt);
          write = ((here, tt), tt);
        })

    installed_form : (k clock : ℕ) (lines : List Line) → StartInForm k lines
        → SiteMoveInForm (installs s from number k clock lines)
    installed_form k clock lines here =
        choose SiteMoveInForm (nat_le k s.epoch) _ _ (λ known. answered says.Installed tt)
        (λ later. choose SiteMoveInForm (nat_le (epoch_length lines) most_record_bytes) _ _
        (λ fits. record {
          site = record {
            epoch = here.epoch_is;
            began = here.lines_are.each_is;
            log = tt;
            arrived = here.lines_are.each_is;
            held = tt;
            prepared = tt;
          };
          sends = (tt, tt);
          failed_sends = (tt, tt);
          write = ((here, leb-true (epoch_length lines) most_record_bytes fits), tt);
        })
        (λ long. answered (says.Behind s.epoch) tt))

    pub at_form : decl.clients ≤ most_clients → (message : Message) → MessageInForm message
        → SiteMoveInForm (site_at decl s from number message)
    at_form few =
        site_cases decl s from number (λ message move. MessageInForm message → SiteMoveInForm move)
        (λ message here. silent)
        (λ tx epoch life want here. requested_form few tx epoch life want here.0 here.1) finished closed_form
        installed_form
