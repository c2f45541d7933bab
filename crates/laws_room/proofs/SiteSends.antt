-- A site's messages go to who sent it something, or to the client of a transaction that holds something there.
use Rattle.std.proofs.Common.{◌≡◌, ℕ, ◌<◌, ◌&&◌, not, nat_lt, Bool, true, false, List, [], ◌∷◌, fold}
use Rattle.std.proofs.Common.{Option, Some, None, refl, arith}
use Rattle.std.specs.List.{AllByRecursion as Every}
use Rattle.std.proofs.lemmas.Bool.{ltb-true}
use Rattle.qc_list.proofs.Members.{every-In, every-append, every-filter}
use Rattle.qc_stamp.specs.declared.stamp.TxId.{TxId}
use Rattle.qc_decl.specs.Vocabulary.{administrator}
use Rattle.qc_decl.specs.declared.declaration.Declaration.{Declaration}
use Rattle.qc_entry.specs.declared.line.Line.{Line}
use Rattle.qc_entry.specs.declared.line.OwnLine.{OwnLine}
use Rattle.qc_entry.specs.declared.line.ReadLock.{ReadLock}
use Rattle.qc_entry.specs.declared.record.Prepared.{Prepared}
use Rattle.qc_lock.specs.declared.clash.Clash.{Clash as Conflict}
use Rattle.qc_lock.specs.Vocabulary.{is_held, same_tx, with_held}
use Rattle.qc_msg.specs.declared.message.Answer.{Answer}
use Rattle.qc_msg.specs.declared.message.Envelope.{Envelope}
use Rattle.qc_msg.specs.declared.message.Message.{Message}
use Rattle.qc_msg.specs.declared.message.Message.TheVariants as messages
use Rattle.qc_msg.specs.declared.message.Outcome.{Outcome}
use Rattle.qc_msg.specs.declared.message.Outcome.TheVariants.{Committed, Aborted, Active}
use Rattle.qc_msg.specs.declared.message.Want.{Want}
use Rattle.qc_msg.specs.declared.message.Want.TheVariants.{Append, Prepare, Read}
use Rattle.qc_msg.specs.declared.step.Input.{Input}
use Rattle.qc_msg.specs.declared.step.Input.TheVariants as inputs
use Rattle.qc_msg.specs.declared.turn.Posting.{Posting}
use Rattle.qc_msg.specs.Vocabulary.{Deed, Falls, Rises, Sends, Takes, Tells, Writes, quiet}
use Rattle.qc_site.specs.Vocabulary.{SiteMove, SiteState, answers, clashing, closes, dropped, fault_of, finishes}
use Rattle.qc_site.specs.Vocabulary.{grants}
use Rattle.qc_site.specs.Vocabulary.{installs, moved, names_declared, names_object, new_site, passed, promise_of}
use Rattle.qc_site.specs.Vocabulary.{requested}
use Rattle.qc_site.specs.Vocabulary.{site_after, site_at, site_does, site_takes}
use Rattle.qc_site.proofs.RequestCases.{append_cases, choose, close_rows, install_rows, join_cases, prepare_cases}
use Rattle.qc_site.proofs.RequestCases.{read_cases}
use Rattle.laws_turns.proofs.SiteCases.{site_cases}
use Rattle.laws_refinement.proofs.Held.{append_holder, dropped_held, given_held, read_holder}
use Rattle.laws_refinement.proofs.HeldByPromises.{by_promises_holder}
use Rattle.laws_room.proofs.TakenMail.{EachTaken, IfMessage}

-- below the administrator: who sent a message, and to whom one goes

abbrev pub IsFromInside : Declaration → Envelope → Type 0
IsFromInside decl e = e.from < administrator decl

abbrev pub GoInside : Declaration → List Posting → Type 0
GoInside decl ps = Every (λ (p : Posting). p.to < administrator decl) ps

module _ (decl : Declaration) where
  abbrev IsOfClient : TxId → Type 0
  IsOfClient tx = tx.client < decl.clients

  -- who holds something at the site, or has its promise, is of a client
  record IsOfClients (s : SiteState) : Type 0 where
    held : (t : TxId) → is_held s.held t ≡ true → IsOfClient t
    prepared : Every (λ (p : Prepared). IsOfClient p.tx) s.prepared

  pub record SendsInside (m : SiteMove) : Type 0 where
    site : IsOfClients m.site
    pub sends : GoInside decl m.turn.sends

  module _ (s : SiteState) (from number : ℕ) (low : from < administrator decl) (w : IsOfClients s) where
    answered : (answer : Answer) → SendsInside (moved s (answers from number answer))
    answered answer = record { site = w; sends = (low, tt) }

    silent : SendsInside (moved s quiet)
    silent = record { site = w; sends = tt }

    clashed : (c : Conflict) → is_held s.held c.holder ≡ true → SendsInside (moved s (clashing decl from number c))
    clashed c holds = record {
      site = w;
      sends = (low, ((let known : c.holder.client < decl.clients = w.held c.holder holds in omega arith), tt));
    }

    holds_more : (tx : TxId) (locks : List ReadLock) (own : List OwnLine) → IsOfClient tx
        → (t : TxId) → is_held (with_held s.held tx locks own) t ≡ true → IsOfClient t
    holds_more tx locks own its = given_held IsOfClient s.held tx locks own w.held its

    granted : (tx : TxId) (want : Want) → IsOfClient tx → SendsInside (grants decl s from number tx want)
    granted tx (Read read) its =
        read_cases SendsInside decl s from number tx read
        (λ free. record {
          site = record {
            held = holds_more tx (record { object = read.object; inv = read.inv } ∷ []) [] its;
            prepared = w.prepared;
          };
          sends = (low, tt);
        })
        (λ c clash. clashed c (read_holder _ s.held tx read.object read.inv c clash))
    granted tx (Append object view own) its =
        append_cases SendsInside decl s from number tx object view own
        (λ free. record {
          site = record { held = holds_more tx [] own its; prepared = w.prepared };
          sends = (low, tt);
        })
        (λ c clash. clashed c (append_holder _ s.held tx own c clash))
    granted tx Prepare its =
        prepare_cases SendsInside s from number tx (answered _) (λ held stands. answered _)
        (λ held made. record {
          site = record {
            held = w.held;
            prepared = every-append (λ (p : Prepared). IsOfClient p.tx) s.prepared (promise_of s tx ∷ []) w.prepared
                (its, tt);
          };
          sends = (low, tt);
        })

    both_first : (x y : Bool) → (x && y) ≡ true → x ≡ true
    both_first true y is = refl
    both_first false y is = is

    asked : (tx : TxId) (epoch life : ℕ) (want : Want)
        → SendsInside (site_at decl s from number (messages.Request tx epoch life want))
    asked tx epoch life want =
        choose SendsInside (names_declared decl tx want) (requested decl s from number tx want (fault_of s epoch life))
        (moved s quiet)
        (λ is. by (fault_of s epoch life)
        (ltb-true tx.client decl.clients (both_first (nat_lt tx.client decl.clients) (names_object decl want) is)))
        (λ is. silent)
      where
        by : (o : Option Answer) → IsOfClient tx → SendsInside (requested decl s from number tx want o)
        by (Some fault) its = answered fault
        by None its = granted tx want its

    fewer : (tx : TxId) → IsOfClients (dropped s tx)
    fewer tx = record {
      held = dropped_held IsOfClient s.held tx w.held;
      prepared = every-filter (λ (p : Prepared). IsOfClient p.tx) (λ (p : Prepared). not (same_tx p.tx tx)) s.prepared
          w.prepared;
    }

    decided : (tx : TxId) (verdict : Outcome) → SendsInside (finishes s tx verdict)
    decided tx (Committed stamp) =
        join_cases SendsInside s tx stamp (λ none. record { site = fewer tx; sends = tt })
        (λ p some. record { site = record { held = (fewer tx).held; prepared = (fewer tx).prepared }; sends = tt })
    decided tx Aborted = record { site = fewer tx; sends = tt }
    decided tx Active = silent

    closing : (k : ℕ) → SendsInside (closes s from number k)
    closing k =
        close_rows SendsInside s from number k (answered _) (answered _) (answered _)
        (record {
          site = record {
            held = by_promises_holder IsOfClient s.prepared
                (λ p among. every-In (λ (p : Prepared). IsOfClient p.tx) p s.prepared w.prepared among);
            prepared = w.prepared;
          };
          sends = (low, tt);
        })

    installing : (k clock : ℕ) (lines : List Line) → SendsInside (installs s from number k clock lines)
    installing k clock lines =
        install_rows SendsInside s from number k clock lines (answered _) (answered _)
        (record {
          site = record { held = λ t never. absurd (let none : ⊥ = cc in none); prepared = tt };
          sends = (low, tt);
        })

    hears : (m : Message) → SendsInside (site_at decl s from number m)
    hears = site_cases decl s from number (λ m move. SendsInside move) (λ m. silent)
        (λ q. asked q.tx q.epoch q.life q.want) decided closing installing

  -- over all deeds

  takes_inside : (s : SiteState) (g : Input) → IfMessage (IsFromInside decl) g → IsOfClients s
      → SendsInside (site_takes decl s g)
  takes_inside s (inputs.Called command) from w = record { site = w; sends = tt }
  takes_inside s (inputs.Got e) from w =
      hears (passed s e.message) e.from e.number from (record { held = w.held; prepared = w.prepared }) e.message
  takes_inside s (inputs.Lost number) from w = record { site = w; sends = tt }

  over : (ds : List Deed) (m : SiteMove) → EachTaken (IsFromInside decl) ds → SendsInside m
      → SendsInside (fold (site_does decl) m ds)
  over [] m from w = w
  over (Takes g ∷ ds) m from w = over ds (site_takes decl m.site g) from.1 (takes_inside m.site g from.0 w.site)
  over (Writes written ∷ ds) m from w = over ds m from.1 w
  over (Sends number to message ∷ ds) m from w = over ds m from.1 w
  over (Tells reply ∷ ds) m from w = over ds m from.1 w
  over (Falls cause pending ∷ ds) m from w = over ds m from.1 w
  over (Rises records ∷ ds) m from w = over ds m from.1 w

  pub site_sends : (a : ℕ) (ds : List Deed) → EachTaken (IsFromInside decl) ds
      → GoInside decl (site_after decl a ds).turn.sends
  site_sends a ds from =
      (over ds (moved (new_site a) quiet) from
      (record {
        site = record { held = λ t never. absurd (let none : ⊥ = cc in none); prepared = tt };
        sends = tt;
      })).sends
