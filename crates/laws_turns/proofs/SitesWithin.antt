-- What a site becomes and sends stays within a bound that what it takes keeps to.
use Rattle.std.proofs.Common.{ℕ, ◌≤◌, ◌==◌, max, not, List, [], ◌∷◌, ◌++◌, fold, arith}
use Rattle.std.specs.declared.cmp.Ordering.{Ordering}
use Rattle.std.specs.declared.cmp.Ordering.TheVariants.{Less, Equal, Greater}
use Rattle.qc_list.specs.Vocabulary.{by_order, inserted}
use Rattle.qc_list.proofs.Members.{every-append, every-filter}
use Rattle.qc_stamp.specs.declared.stamp.Stamp.{Stamp}
use Rattle.qc_stamp.specs.declared.stamp.TxId.{TxId}
use Rattle.qc_stamp.specs.Vocabulary.{same_tx}
use Rattle.qc_entry.specs.declared.line.Line.{Line}
use Rattle.qc_entry.specs.declared.line.OwnLine.{OwnLine}
use Rattle.qc_entry.specs.declared.record.Prepared.{Prepared}
use Rattle.qc_entry.specs.Vocabulary.{has_line, without}
use Rattle.qc_entry.proofs.Union.{every-union}
use Rattle.qc_decl.specs.declared.declaration.Declaration.{Declaration}
use Rattle.qc_lock.specs.declared.clash.Clash.{Clash as Conflict}
use Rattle.qc_msg.specs.declared.message.Answer.{Answer}
use Rattle.qc_msg.specs.declared.message.Answer.TheVariants as says
use Rattle.qc_msg.specs.declared.message.Message.{Message}
use Rattle.qc_msg.specs.declared.message.Message.TheVariants as messages
use Rattle.qc_msg.specs.declared.message.Outcome.{Outcome}
use Rattle.qc_msg.specs.declared.message.Outcome.TheVariants.{Committed, Aborted, Active}
use Rattle.qc_msg.specs.declared.message.Want.{Want}
use Rattle.qc_msg.specs.declared.message.Want.TheVariants.{Read, Append, Prepare}
use Rattle.qc_msg.specs.declared.step.Input.{Input}
use Rattle.qc_msg.specs.declared.step.Input.TheVariants as inputs
use Rattle.qc_msg.specs.Vocabulary.{quiet}
use Rattle.qc_site.specs.Vocabulary.{SiteMove, SiteState, answers, clashing, closes, finishes, grants, installs, known}
use Rattle.qc_site.specs.Vocabulary.{arrived_of, arriving, fresh}
use Rattle.qc_site.specs.Vocabulary.{latest, learned, lines_of, moved, passed, promise_cmp, promise_of, shut_answer}
use Rattle.qc_site.specs.Vocabulary.{site_at, site_takes, stamped, with_stamped, without_prepared}
use Rattle.qc_site.proofs.RequestCases.{append_cases, close_rows, fault_is, install_rows, join_cases, prepare_cases}
use Rattle.qc_site.proofs.RequestCases.{read_cases, request_cases}
use Rattle.laws_turns.proofs.Greater.{lines-le, promises-le, sends-le}
use Rattle.laws_turns.specs.Vocabulary.{AnswerWithin, GivenWithin, LinesWithin, MessageWithin, OutcomeWithin}
use Rattle.laws_turns.specs.Vocabulary.{PromisesWithin, SiteMoveWithin, SiteWithin, WantWithin}
use Rattle.laws_turns.proofs.SiteCases.{site_cases}
use Rattle.laws_turns.proofs.ToldLines.{every-told}

-- a greater bound

pub site-le : (low high : ℕ) (s : SiteState) → low ≤ high → SiteWithin low s → SiteWithin high s
site-le low high s le w = record {
  clock = (let c : s.clock ≤ low = w.clock in omega arith);
  began = lines-le low high le s.began w.began;
  log = lines-le low high le s.log w.log;
  arrived = lines-le low high le s.arrived w.arrived;
  prepared = promises-le low high le s.prepared w.prepared;
}

pub site_move-le : (low high : ℕ) (m : SiteMove) → low ≤ high → SiteMoveWithin low m → SiteMoveWithin high m
site_move-le low high m le w = record {
  site = site-le low high m.site le w.site;
  sends = sends-le low high le m.turn.sends w.sends;
}

-- the latest clock of lines, and the lines of a promise

latest-within : (bound clock : ℕ) (lines : List Line) → clock ≤ bound → LinesWithin bound lines
    → latest clock lines ≤ bound
latest-within bound clock [] here within = here
latest-within bound clock (l ∷ ls) here within =
    let first : l.stamp.clock ≤ bound = within.0 in
    latest-within bound (max clock l.stamp.clock) ls (omega arith) within.1

stamped-within : (bound : ℕ) (stamp : Stamp) (tx : TxId) (lines : List Line) (own : List OwnLine) → stamp.clock ≤ bound
    → LinesWithin bound lines → LinesWithin bound (fold (with_stamped stamp tx) lines own)
stamped-within bound stamp tx lines [] here within = within
stamped-within bound stamp tx lines (o ∷ os) here within =
    stamped-within bound stamp tx (with_stamped stamp tx lines o) os here
    (every-union (λ (l : Line). l.stamp.clock ≤ bound) lines (stamped stamp tx o ∷ []) within (here, tt))

-- lines that others aren't among, and promises

without-within : (bound : ℕ) (lines others : List Line) → LinesWithin bound lines
    → LinesWithin bound (without lines others)
without-within bound lines others within =
    every-filter (λ (l : Line). l.stamp.clock ≤ bound) (λ (l : Line). not (has_line others l)) lines within

promises-push : (bound : ℕ) (ps : List Prepared) (p : Prepared) → PromisesWithin bound ps → LinesWithin bound p.lines
    → PromisesWithin bound (ps ++ p ∷ [])
promises-push bound [] p within here = (here, tt)
promises-push bound (q ∷ qs) p within here = (within.0, promises-push bound qs p within.1 here)

promises-inserted : (bound : ℕ) (ps : List Prepared) (p : Prepared) → PromisesWithin bound ps
    → LinesWithin bound p.lines → PromisesWithin bound (inserted promise_cmp ps p)
promises-inserted bound [] p within here = (here, tt)
promises-inserted bound (q ∷ qs) p within here = by (promise_cmp p q) (promises-inserted bound qs p within.1 here)
  where
    by : (o : Ordering) → PromisesWithin bound (inserted promise_cmp qs p)
        → PromisesWithin bound (by_order o (p ∷ q ∷ qs) (p ∷ qs) (q ∷ inserted promise_cmp qs p))
    by Less rest = (here, within)
    by Equal rest = (here, within.1)
    by Greater rest = (within.0, rest)

promises-ordered : (bound : ℕ) (before ps : List Prepared) → PromisesWithin bound before → PromisesWithin bound ps
    → PromisesWithin bound (fold (inserted promise_cmp) before ps)
promises-ordered bound before [] first within = first
promises-ordered bound before (p ∷ ps) first within =
    promises-ordered bound (inserted promise_cmp before p) ps (promises-inserted bound before p first within.0) within.1

module _ (bound : ℕ) (decl : Declaration) (s : SiteState) (from number : ℕ) (w : SiteWithin bound s) where
  -- the state is as it was, and the answer tells no clock
  answered : (answer : Answer) → AnswerWithin bound answer → SiteMoveWithin bound (moved s (answers from number answer))
  answered answer here = record { site = w; sends = (here, tt) }

  silent : SiteMoveWithin bound (moved s quiet)
  silent = record { site = w; sends = tt }

  clashed : (c : Conflict) → SiteMoveWithin bound (moved s (clashing decl from number c))
  clashed c = record { site = w; sends = (tt, (tt, tt)) }

  all-known : LinesWithin bound (known s)
  all-known = every-union (λ (l : Line). l.stamp.clock ≤ bound) s.began s.log w.began w.log

  learns : (lines : List Line) → LinesWithin bound lines → LinesWithin bound (learned s lines)
  learns lines within = every-union (λ (l : Line). l.stamp.clock ≤ bound) s.log (without lines s.began) w.log
      (without-within bound lines s.began within)

  arrives : (lines : List Line) → LinesWithin bound lines → LinesWithin bound (arriving s lines)
  arrives lines within = every-append (λ (l : Line). l.stamp.clock ≤ bound) s.arrived (fresh s lines) w.arrived
      (without-within bound (without lines s.began) s.log (without-within bound lines s.began within))

  promised-lines : (tx : TxId) → LinesWithin bound (promise_of s tx).lines
  promised-lines tx = without-within bound s.log s.recorded w.log

  -- its transaction has ended
  left : (tx : TxId) → PromisesWithin bound (without_prepared s.prepared tx)
  left tx = every-filter (λ (p : Prepared). LinesWithin bound p.lines)
      (λ (p : Prepared). not (same_tx p.tx tx)) s.prepared w.prepared

  granted : (tx : TxId) (want : Want) → WantWithin bound want → SiteMoveWithin bound (grants decl s from number tx want)
  granted tx (Read read) here =
      read_cases (SiteMoveWithin bound) decl s from number tx read
      (λ free. record {
        site = record { clock = w.clock; began = w.began; log = w.log; arrived = w.arrived; prepared = w.prepared };
        sends = (
          (
            w.clock,
            every-told (λ (l : Line). l.stamp.clock ≤ bound) s.life s.epoch (arrived_of s read.object) read.mark
                (every-filter (λ (l : Line). l.stamp.clock ≤ bound) (λ (l : Line). l.object == read.object) s.arrived
                w.arrived),
          ),
          tt,
        );
      })
      (λ c clash. clashed c)
  granted tx (Append object view own) here =
      append_cases (SiteMoveWithin bound) decl s from number tx object view own
      (λ free. record {
        site = record {
          clock = w.clock;
          began = w.began;
          log = learns view here;
          arrived = arrives view here;
          prepared = w.prepared;
        };
        sends = ((w.clock, tt), tt);
      })
      (λ c clash. clashed c)
  granted tx Prepare here =
      prepare_cases (SiteMoveWithin bound) s from number tx (answered says.Stale tt)
      (λ held stands. answered (says.Yes s.clock) w.clock)
      (λ held made. record {
        site = record {
          clock = w.clock;
          began = w.began;
          log = w.log;
          arrived = w.arrived;
          prepared = promises-push bound s.prepared (promise_of s tx) w.prepared (promised-lines tx);
        };
        sends = (w.clock, tt);
      })

  requested-within : (tx : TxId) (epoch life : ℕ) (want : Want) → WantWithin bound want
      → SiteMoveWithin bound (site_at decl s from number (messages.Request tx epoch life want))
  requested-within tx epoch life want here =
      request_cases (SiteMoveWithin bound) decl s from number tx epoch life want silent
      (fault_is (λ (a : Answer). SiteMoveWithin bound (moved s (answers from number a))) s epoch life
      (answered (says.Behind s.epoch) tt) (λ other. answered (says.Closed other) tt)
      (answered (says.Restarted s.life) tt))
      (λ is. granted tx want here)

  finished : (tx : TxId) (verdict : Outcome) → OutcomeWithin bound verdict
      → SiteMoveWithin bound (finishes s tx verdict)
  finished tx (Committed stamp) here =
      join_cases (SiteMoveWithin bound) s tx stamp
      (λ none. record {
        site = record { clock = w.clock; began = w.began; log = w.log; arrived = w.arrived; prepared = left tx };
        sends = tt;
      })
      (λ p some. record {
        site = record {
          clock = w.clock;
          began = w.began;
          log = learns (lines_of stamp tx p.own) (stamped-within bound stamp tx [] p.own here tt);
          arrived = arrives (lines_of stamp tx p.own) (stamped-within bound stamp tx [] p.own here tt);
          prepared = left tx;
        };
        sends = tt;
      })
  finished tx Aborted here = record {
    site =
        record { clock = w.clock; began = w.began; log = w.log; arrived = w.arrived; prepared = left tx };
    sends = tt;
  }
  finished tx Active here = silent

  -- a Close tells all that the site knows; with an Install another epoch begins

  shut-within : AnswerWithin bound (shut_answer s)
  shut-within = (w.clock, all-known, promises-ordered bound [] s.prepared tt w.prepared)

  closed-within : (k : ℕ) → SiteMoveWithin bound (closes s from number k)
  closed-within k =
      close_rows (SiteMoveWithin bound) s from number k (answered (says.Behind s.epoch) tt)
      (answered (says.Closed s.epoch) tt) (answered (shut_answer s) shut-within)
      (record {
        site = record { clock = w.clock; began = w.began; log = w.log; arrived = w.arrived; prepared = w.prepared };
        sends = (shut-within, tt);
      })

  installed-within : (k clock : ℕ) (lines : List Line) → clock ≤ bound → LinesWithin bound lines
      → SiteMoveWithin bound (installs s from number k clock lines)
  installed-within k clock lines here within =
      install_rows (SiteMoveWithin bound) s from number k clock lines (answered says.Installed tt)
      (answered (says.Behind s.epoch) tt)
      (record {
        site = record {
          clock = (let c : s.clock ≤ bound = w.clock in omega arith);
          began = within;
          log = tt;
          arrived = within;
          prepared = tt;
        };
        sends = (tt, tt);
      })

  at-within : (message : Message) → MessageWithin bound message
      → SiteMoveWithin bound (site_at decl s from number message)
  at-within message here =
      site_cases decl s from number (λ m move. MessageWithin bound m → SiteMoveWithin bound move) (λ m within. silent)
      (λ q within. requested-within q.tx q.epoch q.life q.want within) finished (λ k within. closed-within k)
      (λ k clock lines within. installed-within k clock lines within.0 within.1) message here

-- the clock as a message comes

asked-within : (bound : ℕ) (s : SiteState) (tx : TxId) (epoch life : ℕ) (want : Want) → s.clock ≤ bound
    → WantWithin bound want → (passed s (messages.Request tx epoch life want)).clock ≤ bound
asked-within bound s tx epoch life (Read read) w here = w
asked-within bound s tx epoch life (Append object view own) w here = latest-within bound s.clock view w here
asked-within bound s tx epoch life Prepare w here = w

told-within : (bound : ℕ) (s : SiteState) (tx : TxId) (verdict : Outcome) → s.clock ≤ bound
    → OutcomeWithin bound verdict → (passed s (messages.Decision tx verdict)).clock ≤ bound
told-within bound s tx (Committed stamp) w here = let t : stamp.clock ≤ bound = here in omega arith
told-within bound s tx Aborted w here = w
told-within bound s tx Active w here = w

clock-within : (bound : ℕ) (s : SiteState) (message : Message) → s.clock ≤ bound → MessageWithin bound message
    → (passed s message).clock ≤ bound
clock-within bound s (messages.Request tx epoch life want) w here = asked-within bound s tx epoch life want w here
clock-within bound s (messages.Answer to answer) w here = w
clock-within bound s (messages.Decision tx verdict) w here = told-within bound s tx verdict w here
clock-within bound s (messages.Inquiry tx) w here = w
clock-within bound s (messages.Ask tx) w here = w
clock-within bound s (messages.Close epoch) w here = w
clock-within bound s (messages.Install start) w here = latest-within bound s.clock start.lines w here.1

passed-within : (bound : ℕ) (s : SiteState) (message : Message) → SiteWithin bound s → MessageWithin bound message
    → SiteWithin bound (passed s message)
passed-within bound s message w here = record {
  clock = clock-within bound s message w.clock here;
  began = w.began;
  log = w.log;
  arrived = w.arrived;
  prepared = w.prepared;
}

-- one input
pub site_takes_within : (bound : ℕ) (decl : Declaration) (s : SiteState) (g : Input) → SiteWithin bound s
    → GivenWithin bound g → SiteMoveWithin bound (site_takes decl s g)
site_takes_within bound decl s (inputs.Called command) w here = record { site = w; sends = tt }
site_takes_within bound decl s (inputs.Got e) w here =
    at-within bound decl (passed s e.message) e.from e.number (passed-within bound s e.message w here) e.message here
site_takes_within bound decl s (inputs.Lost number) w here = record { site = w; sends = tt }
