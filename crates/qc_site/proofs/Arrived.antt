-- What has joined a site's log is what it knows, whatever it takes.
use Rattle.std.proofs.Common.{◌⊎◌, inl, inr, ℕ, List, [], ◌∷◌, ◌++◌, fold, subst, sym}
use Rattle.qc_list.specs.Vocabulary.{In}
use Rattle.qc_list.proofs.Members.{In-first, In-second, In-either}
use Rattle.qc_entry.specs.declared.line.Line.{Line}
use Rattle.qc_entry.specs.Vocabulary.{union, without}
use Rattle.qc_entry.proofs.Union.{in_first, in_second, union-nil}
use Rattle.qc_entry.proofs.Without.{in_lacked, in_without}
use Rattle.qc_decl.specs.declared.declaration.Declaration.{Declaration}
use Rattle.qc_msg.specs.declared.message.Message.{Message}
use Rattle.qc_msg.specs.declared.step.Input.{Input}
use Rattle.qc_msg.specs.declared.step.Input.TheVariants as inputs
use Rattle.qc_msg.specs.Vocabulary.{Deed, Falls, Rises, Sends, Takes, Tells, Writes, quiet}
use Rattle.qc_site.specs.Vocabulary.{HasArrived, SiteMove, SiteState, known, lines_of, moved, new_site, passed}
use Rattle.qc_site.specs.Vocabulary.{site_after, site_at, site_does, site_on, site_takes}
use Rattle.qc_site.proofs.Cases.{state_cases}
use Rattle.qc_site.proofs.KnownLines.{learned_in, learned_from}

-- lines are learned

pub arrives : (s : SiteState) (lines : List Line) → HasArrived s → (l : Line)
    → In l (s.arrived ++ without (without lines s.began) s.log)
    → In l (union s.began (union s.log (without lines s.began)))
arrives s lines w l among = elim (In-either l s.arrived _ among) [
  | inl old ↦ learned_in l s.began s.log lines (inl (w.known l old))
  | inr new ↦ learned_in l s.began s.log lines
      (inr (in_lacked l lines s.began (in_lacked l (without lines s.began) s.log new)))
]

pub all_arrive : (s : SiteState) (lines : List Line) → HasArrived s → (l : Line)
    → In l (union s.began (union s.log (without lines s.began)))
    → In l (s.arrived ++ without (without lines s.began) s.log)
all_arrive s lines w l among = elim (learned_from l s.began s.log lines among) [
  | inl old ↦ here (w.all l old)
  | inr new ↦ elim (in_without lines s.began l new) [
    | inl since ↦ elim (in_without (without lines s.began) s.log l since) [
      | inl first ↦ In-second l s.arrived _ first
      | inr had ↦ here (w.all l (in_second l s.began s.log had))
    ]
    | inr began ↦ here (w.all l (in_began l began))
  ]
]
  where
    here : In l s.arrived → In l (s.arrived ++ without (without lines s.began) s.log)
    here i = In-first l s.arrived _ i

    in_began : (x : Line) → In x s.began → In x (known s)
    in_began x i = in_first x s.began s.log i

arrived_at : (decl : Declaration) (s : SiteState) (from number : ℕ) (message : Message) → HasArrived s
    → HasArrived (site_at decl s from number message).site
arrived_at decl s from number message w =
    state_cases HasArrived decl s from number message w
    (λ tx epoch life r is. record { known = w.known; all = w.all })
    (λ tx epoch life object view own is. record { known = arrives s view w; all = all_arrive s view w })
    (λ tx. record { known = w.known; all = w.all })
    (λ tx verdict is final. record { known = w.known; all = w.all })
    (λ tx stamp p is.
    record { known = arrives s (lines_of stamp tx p.own) w; all = all_arrive s (lines_of stamp tx p.own) w })
    (λ k is. record { known = w.known; all = w.all })
    (λ k clock lines is later. record {
      known = λ l i. subst (λ (ls : List Line). In l ls) (sym (union-nil lines)) i;
      all = λ l i. subst (λ (ls : List Line). In l ls) (union-nil lines) i;
    })

pub stays_arrived : (decl : Declaration) (s : SiteState) (from number : ℕ) (message : Message) → HasArrived s
    → HasArrived (site_on decl s from number message).site
stays_arrived decl s from number message w =
    arrived_at decl (passed s message) from number message (record { known = w.known; all = w.all })

-- all deeds

takes-arrived : (decl : Declaration) (s : SiteState) (g : Input) → HasArrived s → HasArrived (site_takes decl s g).site
takes-arrived decl s (inputs.Called command) w = w
takes-arrived decl s (inputs.Got e) w = stays_arrived decl s e.from e.number e.message w
takes-arrived decl s (inputs.Lost number) w = w

deeds-arrived : (decl : Declaration) (m : SiteMove) (ds : List Deed) → HasArrived m.site
    → HasArrived (fold (site_does decl) m ds).site
deeds-arrived decl m [] w = w
deeds-arrived decl m (Takes g ∷ ds) w =
    deeds-arrived decl (site_takes decl m.site g) ds (takes-arrived decl m.site g w)
deeds-arrived decl m (Writes written ∷ ds) w = deeds-arrived decl m ds w
deeds-arrived decl m (Sends number to message ∷ ds) w = deeds-arrived decl m ds w
deeds-arrived decl m (Tells reply ∷ ds) w = deeds-arrived decl m ds w
deeds-arrived decl m (Falls cause pending ∷ ds) w = deeds-arrived decl m ds w
deeds-arrived decl m (Rises records ∷ ds) w = deeds-arrived decl m ds w

pub after_arrived : (decl : Declaration) (number : ℕ) (ds : List Deed) → HasArrived (site_after decl number ds).site
after_arrived decl number ds =
    deeds-arrived decl (moved (new_site number) quiet) ds (record { known = λ l none. none; all = λ l none. none })
