-- A site that knows, holds and has promised what names declared things goes on so, sends such messages and writes such
-- records.
use Rattle.std.proofs.Common.{◌≡◌, ℕ, ◌<◌, ◌==◌, ◌&&◌, nat_lt, not, Bool, true, false, List, [], ◌∷◌, Option, Some}
use Rattle.std.proofs.Common.{None, refl}
use Rattle.std.specs.Prelude.{option_to_list}
use Rattle.std.specs.List.{AllByRecursion as Every}
use Rattle.std.proofs.lemmas.Bool.{ltb-true}
use Rattle.qc_list.proofs.Members.{every-append, every-filter}
use Rattle.qc_decl.specs.declared.declaration.Declaration.{Declaration}
use Rattle.qc_entry.specs.Vocabulary.{has_line, without}
use Rattle.qc_entry.specs.declared.line.Line.{Line}
use Rattle.qc_entry.specs.declared.record.Prepared.{Prepared}
use Rattle.qc_entry.proofs.Union.{every-union}
use Rattle.qc_lock.specs.declared.clash.Clash.{Clash as Conflict}
use Rattle.qc_lock.specs.declared.held.Held.{Held}
use Rattle.qc_lock.specs.Vocabulary.{held_of}
use Rattle.qc_fit.specs.Vocabulary.{HasPlan}
use Rattle.qc_msg.specs.declared.message.Answer.{Answer}
use Rattle.qc_msg.specs.declared.message.Answer.TheVariants as says
use Rattle.qc_msg.specs.declared.message.Message.{Message}
use Rattle.qc_msg.specs.declared.message.Message.TheVariants as messages
use Rattle.qc_msg.specs.declared.message.Outcome.{Outcome}
use Rattle.qc_msg.specs.declared.message.Outcome.TheVariants.{Committed, Aborted, Active}
use Rattle.qc_msg.specs.declared.message.Want.{Want}
use Rattle.qc_msg.specs.declared.message.Want.TheVariants.{Append, Prepare, Read}
use Rattle.qc_msg.specs.declared.step.Input.{Input}
use Rattle.qc_msg.specs.declared.step.Input.TheVariants as inputs
use Rattle.qc_msg.specs.Vocabulary.{quiet}
use Rattle.qc_site.specs.Vocabulary.{SiteMove, SiteState, answers, clashing, closes, fault_of, finishes, grants}
use Rattle.qc_site.specs.Vocabulary.{arrived_of, fresh}
use Rattle.qc_site.specs.Vocabulary.{installs, known, learned, lines_of, moved, names_declared, names_object, passed}
use Rattle.qc_site.specs.Vocabulary.{promise_cmp, promise_of, requested, shut_answer, site_at, site_takes, arriving}
use Rattle.qc_site.proofs.RequestCases.{append_cases, choose, close_rows, fault_is, install_rows, join_cases}
use Rattle.qc_site.proofs.RequestCases.{prepare_cases, read_cases}
use Rattle.qc_stamp.specs.declared.stamp.TxId.{TxId}
use Rattle.qc_stamp.specs.Vocabulary.{same_tx}
use Rattle.laws_bounds.proofs.Names.{AnswerNamed, AreNamed, GivenNamed, LineNamed, LinesNamed, MessageNamed}
use Rattle.laws_bounds.proofs.Names.{PromiseNamed, SendsNamed, WantNamed}
use Rattle.laws_bounds.proofs.HeldNamed.{FoundNamed, HasNamed, HeldNamed, every-all_inserted, found_named, has_named}
use Rattle.laws_bounds.proofs.HeldNamed.{promises_held, held_named, lines_named}
use Rattle.laws_bounds.proofs.SiteCases.{site_cases}
use Rattle.laws_turns.proofs.ToldLines.{every-told}

module _ (decl : Declaration) where
  pub record SiteNamed (s : SiteState) : Type 0 where
    pub epoch : HasPlan decl s.epoch
    pub began : LinesNamed decl s.began
    pub log : LinesNamed decl s.log
    pub arrived : LinesNamed decl s.arrived
    pub held : Every (HeldNamed decl) s.held
    pub prepared : Every (PromiseNamed decl) s.prepared

  -- a move

  pub record SiteMoveNamed (a : ℕ) (m : SiteMove) : Type 0 where
    pub site : SiteNamed m.site
    pub sends : SendsNamed decl m.turn.sends
    pub failed_sends : SendsNamed decl m.turn.failed_sends
    pub write : AreNamed decl a (option_to_list m.turn.write)

  module _ (a : ℕ) (is_site : a < decl.sites) (s : SiteState) (from number : ℕ) (w : SiteNamed s) where
    abbrev Moves : SiteMove → Type 0
    Moves m = SiteMoveNamed a m

    all_known : LinesNamed decl (known s)
    all_known = every-union (LineNamed decl) s.began s.log w.began w.log

    learns : (lines : List Line) → LinesNamed decl lines → LinesNamed decl (learned s lines)
    learns lines named =
        every-union (LineNamed decl) s.log (without lines s.began) w.log
        (every-filter (LineNamed decl) (λ (l : Line). not (has_line s.began l)) lines named)

    arrives : (lines : List Line) → LinesNamed decl lines → LinesNamed decl (arriving s lines)
    arrives lines named =
        every-append (LineNamed decl) s.arrived (fresh s lines) w.arrived
        (every-filter (LineNamed decl) (λ (l : Line). not (has_line s.log l)) (without lines s.began)
        (every-filter (LineNamed decl) (λ (l : Line). not (has_line s.began l)) lines named))

    answered : (answer : Answer) → AnswerNamed decl answer → Moves (moved s (answers from number answer))
    answered answer here = record { site = w; sends = (here, tt); failed_sends = tt; write = tt }

    silent : Moves (moved s quiet)
    silent = record { site = w; sends = tt; failed_sends = tt; write = tt }

    clashed : (c : Conflict) → Moves (moved s (clashing decl from number c))
    clashed c = record { site = w; sends = (tt, (tt, tt)); failed_sends = tt; write = tt }

    granted : (tx : TxId) (want : Want) → tx.client < decl.clients → WantNamed decl want
        → Moves (grants decl s from number tx want)
    granted tx (Read read) low here =
        read_cases Moves decl s from number tx read
        (λ free. record {
          site =
              record {
                epoch = w.epoch;
                began = w.began;
                log = w.log;
                arrived = w.arrived;
                held =
                    held_named decl s.held tx (record { object = read.object; inv = read.inv } ∷ []) [] w.held low
                    (here, tt) tt;
                prepared = w.prepared;
              };
          sends = (
            every-told (LineNamed decl) s.life s.epoch (arrived_of s read.object) read.mark
                (every-filter (LineNamed decl) (λ (l : Line). l.object == read.object) s.arrived w.arrived),
            tt,
          );
          failed_sends = tt;
          write = tt;
        })
        (λ c clash. clashed c)
    granted tx (Append object view own) low here =
        append_cases Moves decl s from number tx object view own
        (λ free. record {
          site =
              record {
                epoch = w.epoch;
                began = w.began;
                log = learns view here.0;
                arrived = arrives view here.0;
                held = held_named decl s.held tx [] own w.held low tt here.1;
                prepared = w.prepared;
              };
          sends = (tt, tt);
          failed_sends = tt;
          write = tt;
        })
        (λ c clash. clashed c)
    granted tx Prepare low here =
        prepare_cases Moves s from number tx (answered says.Stale tt) (λ held stands. answered (says.Yes s.clock) tt)
        (λ held made. (let has : HasNamed decl (held_of s.held tx) = has_named decl s.held tx w.held in
        record {
          site =
              record {
                epoch = w.epoch;
                began = w.began;
                log = w.log;
                arrived = w.arrived;
                held = w.held;
                prepared =
                    every-append (PromiseNamed decl) s.prepared (promise_of s tx ∷ []) w.prepared
                    (record { client = low; locks = has.locks; own = has.own }, tt);
              };
          sends = (tt, tt);
          failed_sends = (tt, tt);
          write = (
            (
              is_site,
              low,
              w.epoch,
              has.locks,
              has.own,
              every-filter (LineNamed decl)
                  (λ (l : Line). not (has_line s.recorded l)) s.log w.log,
            ),
            tt,
          );
        }))

    both_first : (x y : Bool) → (x && y) ≡ true → x ≡ true
    both_first true y is = refl
    both_first false y is = is

    finished : (tx : TxId) (verdict : Outcome) → Moves (finishes s tx verdict)
    finished tx (Committed stamp) =
        join_cases Moves s tx stamp
        (λ none. record {
          site = record {
            epoch = w.epoch;
            began = w.began;
            log = w.log;
            arrived = w.arrived;
            held = every-filter (HeldNamed decl) (λ (h : Held). not (same_tx h.tx tx)) s.held w.held;
            prepared = every-filter (PromiseNamed decl) (λ (q : Prepared). not (same_tx q.tx tx)) s.prepared w.prepared;
          };
          sends = tt;
          failed_sends = tt;
          write = tt;
        })
        (λ p some. (let found : FoundNamed decl tx p = found_named decl s.prepared tx p w.prepared some in
        record {
          site = record {
            epoch = w.epoch;
            began = w.began;
            log = learns (lines_of stamp tx p.own) (lines_named decl stamp tx p.own found.client found.own);
            arrived = arrives (lines_of stamp tx p.own) (lines_named decl stamp tx p.own found.client found.own);
            held = every-filter (HeldNamed decl) (λ (h : Held). not (same_tx h.tx tx)) s.held w.held;
            prepared = every-filter (PromiseNamed decl) (λ (q : Prepared). not (same_tx q.tx tx)) s.prepared w.prepared;
          };
          sends = tt;
          failed_sends = tt;
          write = ((is_site, found.client), tt);
        }))
    finished tx Aborted = record {
      site = record {
        epoch = w.epoch;
        began = w.began;
        log = w.log;
        arrived = w.arrived;
        held = every-filter (HeldNamed decl) (λ (h : Held). not (same_tx h.tx tx)) s.held w.held;
        prepared = every-filter (PromiseNamed decl) (λ (q : Prepared). not (same_tx q.tx tx)) s.prepared w.prepared;
      };
      sends = tt;
      failed_sends = tt;
      write = tt;
    }
    finished tx Active = silent

    requested_named : (tx : TxId) (epoch life : ℕ) (want : Want) → WantNamed decl want
        → Moves (site_at decl s from number (messages.Request tx epoch life want))
    requested_named tx epoch life want here =
        choose Moves (names_declared decl tx want) (requested decl s from number tx want (fault_of s epoch life))
        (moved s quiet)
        (λ is. by (fault_of s epoch life) refl
        (ltb-true tx.client decl.clients (both_first (nat_lt tx.client decl.clients) (names_object decl want) is)))
        (λ is. silent)
      where
        by : (o : Option Answer) → fault_of s epoch life ≡ o → tx.client < decl.clients
            → Moves (requested decl s from number tx want o)
        by (Some fault) is low = answered fault (fault_is (AnswerNamed decl) s epoch life tt (λ other. tt) tt fault is)
        by None is low = granted tx want low here

    -- a Close tells all that the site knows and has promised; with an Install another epoch begins

    shut_named : AnswerNamed decl (shut_answer s)
    shut_named = (all_known, every-all_inserted (PromiseNamed decl) promise_cmp [] s.prepared tt w.prepared)

    closed_named : (k : ℕ) → HasPlan decl k → Moves (closes s from number k)
    closed_named k planned =
        close_rows Moves s from number k (answered (says.Behind s.epoch) tt) (answered (says.Closed s.epoch) tt)
        (answered (shut_answer s) shut_named)
        (record {
          site = record {
            epoch = w.epoch;
            began = w.began;
            log = w.log;
            arrived = w.arrived;
            held = promises_held decl s.prepared w.prepared;
            prepared = w.prepared;
          };
          sends = (shut_named, tt);
          failed_sends = (tt, tt);
          write = ((is_site, planned), tt);
        })

    installed_named : (k clock : ℕ) (lines : List Line) → HasPlan decl k → LinesNamed decl lines
        → Moves (installs s from number k clock lines)
    installed_named k clock lines planned named =
        install_rows Moves s from number k clock lines (answered says.Installed tt) (answered (says.Behind s.epoch) tt)
        (record {
          site = record { epoch = planned; began = named; log = tt; arrived = named; held = tt; prepared = tt };
          sends = (tt, tt);
          failed_sends = (tt, tt);
          write = ((is_site, planned, named), tt);
        })

    pub at_named : (message : Message) → MessageNamed decl message → Moves (site_at decl s from number message)
    at_named =
        site_cases decl s from number (λ message move. MessageNamed decl message → Moves move) (λ message here. silent)
        requested_named (λ tx verdict here. finished tx verdict) closed_named
        (λ epoch clock lines here. installed_named epoch clock lines here.0 here.1)

  -- one input
  pub site_takes_named : (a : ℕ) → a < decl.sites → (s : SiteState) (g : Input) → SiteNamed s → GivenNamed decl g
      → SiteMoveNamed a (site_takes decl s g)
  site_takes_named a low s (inputs.Called command) w here = silent a low s 0 0 w
  site_takes_named a low s (inputs.Got e) w here =
      at_named a low (passed s e.message) e.from e.number (record {
        epoch = w.epoch;
        began = w.began;
        log = w.log;
        arrived = w.arrived;
        held = w.held;
        prepared = w.prepared;
      }) e.message here
  site_takes_named a low s (inputs.Lost number) w here = silent a low s 0 0 w
