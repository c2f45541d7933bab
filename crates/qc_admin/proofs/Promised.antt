-- Each question is about a promise.
use Rattle.std.proofs.Common.{◌<◌, ◌++◌, ◌∷◌, [], ℕ, List, Bool, true, false, cond, fold, None}
use Rattle.std.specs.List.{AllByRecursion as Every}
use Rattle.qc_entry.specs.declared.record.Prepared.{Prepared}
use Rattle.qc_list.proofs.Members.{every-append}
use Rattle.qc_decl.specs.Vocabulary.{most_clients}
use Rattle.qc_epoch.specs.Vocabulary.{Question, ShutSite, is_questioned, questions_of, with_question, with_questions}
use Rattle.qc_admin.specs.Vocabulary.{AreOfClients, ShutsFit}

-- about a transaction of a client that may be declared
abbrev pub AreAsked : List Question → Type 0
AreAsked qs = Every (λ (q : Question). q.tx.client < most_clients) qs

one_more : (site : ℕ) (qs : List Question) (p : Prepared) → AreAsked qs → p.tx.client < most_clients
    → AreAsked (with_question site qs p)
one_more site qs p all low = by (is_questioned qs p.tx)
  where
    by : (b : Bool) → AreAsked (cond b qs (qs ++ record { tx = p.tx; site = site; number = None; taken = None } ∷ []))
    by true = all
    by false = every-append (λ (q : Question). q.tx.client < most_clients) qs
        (record { tx = p.tx; site = site; number = None; taken = None } ∷ []) all (low, tt)

some_more : (site : ℕ) (qs : List Question) (ps : List Prepared) → AreAsked qs → AreOfClients ps
    → AreAsked (fold (with_question site) qs ps)
some_more site qs [] all low = all
some_more site qs (p ∷ ps) all low = some_more site (with_question site qs p) ps (one_more site qs p all low.0) low.1

all_more : (qs : List Question) (shuts : List ShutSite) → AreAsked qs → ShutsFit shuts
    → AreAsked (fold with_questions qs shuts)
all_more qs [] all fit = all
all_more qs (s ∷ ss) all fit = all_more (with_questions qs s) ss (some_more s.site qs s.prepared all fit.0) fit.1

pub questions_asked : (shuts : List ShutSite) → ShutsFit shuts → AreAsked (questions_of shuts)
questions_asked shuts fit = all_more [] shuts tt fit
