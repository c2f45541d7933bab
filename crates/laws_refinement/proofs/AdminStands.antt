-- What the administrator's records give, and the turns at which the machine does nothing.
use Rattle.std.proofs.Common.{[], ◌≡◌, ℕ, suc, ◌+◌, ◌⊎◌, true, inl, List, ◌∷◌, ◌++◌, length, fold, map, Option, Some}
use Rattle.std.proofs.Common.{None, refl, sym, ap, ◌∙◌, subst}
use Rattle.qc_list.specs.Vocabulary.{In}
use Rattle.qc_entry.specs.declared.line.Line.{Line}
use Rattle.qc_decl.specs.declared.declaration.Declaration.{Declaration}
use Rattle.qc_decl.specs.Vocabulary.{administrator}
use Rattle.theory_onecopy.proofs.Lists.{Mapped, map_in}
use Rattle.qc_msg.specs.declared.call.Call.{Call}
use Rattle.qc_msg.specs.declared.message.Envelope.{Envelope}
use Rattle.qc_msg.specs.declared.reply.Reply.{Reply}
use Rattle.qc_msg.specs.declared.reply.Reply.TheVariants as replies
use Rattle.qc_msg.specs.declared.turn.Posting.{Posting}
use Rattle.qc_msg.specs.Vocabulary.{envelopes, quiet, with_call}
use Rattle.theory_machine.specs.Vocabulary.{Act, IsRun, State, state}
use Rattle.qc_epoch.specs.Vocabulary.{Admin, AdminMove, Doing, Installing, Resting, again, all_sites}
use Rattle.qc_msg.specs.declared.payload.EpochStart.{EpochStart}
use Rattle.qc_epoch.specs.Vocabulary.{doing, install_of, install_sends, moved, replies_with}
use Rattle.laws_refinement.specs.Vocabulary.{AdminMirrors, Backed, Continues, DecidedMirrors, DoingMirrors, IsDecided}
use Rattle.laws_refinement.specs.Vocabulary.{IsPendingRule, IsPlanned, IsTooLong, Mirrors, Net, RulesMirror}
use Rattle.laws_refinement.specs.Vocabulary.{after_admin, all_sent}
use Rattle.std.specs.Prelude.{option_to_list}
use Rattle.std.proofs.lemmas.List.{append-nil}
use Rattle.qc_msg.specs.declared.record.Record.{Record}
use Rattle.qc_msg.specs.declared.record.Record.TheVariants as records
use Rattle.qc_msg.specs.Vocabulary.{start_with}
use Rattle.theory_machine.proofs.Names.{put_here}
use Rattle.qc_recover.specs.Admins.{keeps, kept_by}
use Rattle.laws_refinement.proofs.Machine.{put_other}
use Rattle.laws_refinement.proofs.SiteNets.{Apart}
use Rattle.laws_refinement.proofs.Nets.{AdminShows, admin_net}
use Rattle.laws_refinement.proofs.MessagesStay.{keeps_same, admin_later, same_state}

-- his records, one more

rule_from : (k : Option EpochStart) (rs : List Record) (r : Record)
    → fold keeps k (rs ++ r ∷ []) ≡ keeps (fold keeps k rs) r
rule_from k [] r = refl
rule_from k (x ∷ xs) r = rule_from (keeps k x) xs r

pub rule_more : (rs : List Record) (r : Record) → kept_by (rs ++ r ∷ []) ≡ keeps (kept_by rs) r
rule_more rs r = rule_from None rs r

-- his turn leaves the decided epoch, or decides the next one

pub record DecidesNext (epoch : ℕ) (move : AdminMove) : Type 0 where
  pub next : ℕ
  pub clock : ℕ
  pub lines : List Line
  pub wrote : move.turn.write ≡ Some (records.Decide (start_with next clock lines))
  pub follows : next ≡ suc epoch
  pub then_is : move.admin.epoch ≡ next

abbrev pub IsInTurn : ℕ → AdminMove → Type 0
IsInTurn epoch move = ((move.turn.write ≡ None) × (move.admin.epoch ≡ epoch)) ⊎ DecidesNext epoch move

module _ (decl : Declaration) (acts : List Act) (net : Net) (run : IsRun decl acts) (m : Mirrors decl (state acts) net)
    (up : net.up (administrator decl) ≡ true) where
  abbrev pub more_of : AdminMove → List Envelope
  more_of move = envelopes (administrator decl) (length net.mail) move.turn.sends

  -- the machine goes along with a turn; were its record written as he falls, it would decide; and a fault is told of a
  -- decision that is too long alone
  abbrev pub Goes : AdminMove → Type 0
  Goes move = Continues decl acts (after_admin decl net move)
      × ((r : Record) → move.turn.write ≡ Some r
      → IsPendingRule decl (state acts) (Some r) × (move.turn.failed_sends ≡ []))
      × IsInTurn net.admin.epoch move
      × (move.turn.told ≡ Some replies.Fault → IsTooLong decl (state acts))

  pub shown : (v : State) (move : AdminMove)
      → AdminMirrors decl v (net.mail ++ more_of move) (all_sent move.admin (length net.mail) move.turn.sends)
      → RulesMirror decl v (kept_by (net.records (administrator decl) ++ option_to_list move.turn.write))
      → AdminShows decl v (after_admin decl net move)
  shown v move admin rules = record {
    mirrors = λ u. admin;
    rules =
        subst (λ (rs : List Record). RulesMirror decl v (kept_by rs))
        (sym (put_here net.records (administrator decl)
        (net.records (administrator decl) ++ option_to_list move.turn.write))) rules;
    decides = λ down. absurd (let never : ⊥ = cc in never);
  }

  pub alone : (move : AdminMove) → Apart decl net (after_admin decl net move) (administrator decl) move.turn.sends
  alone move = record {
    sites = λ b other. refl;
    clients = λ b other. refl;
    up = λ b other. refl;
    records =
        λ b other. put_other net.records (administrator decl)
        (net.records (administrator decl) ++ option_to_list move.turn.write) b other;
    pending = λ b other. refl;
    admin = λ other. absurd (other refl);
    mail = refl;
  }

  -- where the machine does nothing
  pub rests : (move : AdminMove) → move.turn.write ≡ None → move.admin.epoch ≡ net.admin.epoch
      → ((p : Posting) → In p move.turn.sends → Backed decl (state acts) net.mail (administrator decl) p.to p.message)
      → AdminMirrors decl (state acts) (net.mail ++ more_of move)
      (all_sent move.admin (length net.mail) move.turn.sends)
      → (move.turn.told ≡ Some replies.Fault → IsTooLong decl (state acts)) → Goes (move)
  rests move unwritten still turn admin long = (
    record {
      more = [];
      refines = record {
        run = run;
        agrees =
            admin_net decl (state acts) (state acts) net (after_admin decl net move) move.turn.sends m (alone move) refl
            (record {
              later = same_state (state acts);
              keeps = keeps_same (state acts);
              records = refl;
              granted = refl;
              deeds = refl;
              lives = refl;
            })
            (shown (state acts) move admin
            (subst (λ (o : Option Record). RulesMirror decl (state acts)
            (kept_by (net.records (administrator decl) ++ option_to_list o))) (sym unwritten)
            (subst (λ (rs : List Record). RulesMirror decl (state acts) (kept_by rs))
            (sym (append-nil (net.records (administrator decl)))) m.rules)))
            turn;
      };
    },
    (λ r wrote. absurd (let both : None ≡ Some r = sym unwritten ∙ wrote in let never : ⊥ = cc in never)),
    inl (unwritten, still),
    long,
  )

  -- nothing is sent, and what runs is this
  pub stays : (d : Doing) (move : AdminMove) → move.admin ≡ doing net.admin d → move.turn.write ≡ None
      → move.turn.sends ≡ [] → DoingMirrors decl (state acts) net.mail net.admin.epoch d
      → (move.turn.told ≡ Some replies.Fault → IsTooLong decl (state acts)) → Goes (move)
  stays d move same unwritten none h long =
      rests move unwritten (ap (λ (x : Admin). x.epoch) same)
      (λ p among. absurd (subst (λ (ps : List Posting). In p ps) none among))
      (subst (λ (ps : List Posting). AdminMirrors decl (state acts)
      (net.mail ++ envelopes (administrator decl) (length net.mail) ps) (all_sent move.admin (length net.mail) ps))
      (sym none)
      (subst (λ (x : Admin). AdminMirrors decl (state acts) (net.mail ++ []) x) (sym same)
      (admin_later decl (state acts) (state acts) (same_state (state acts)) net.mail [] (doing net.admin d)
      (record { planned = (m.admin up).planned; decided = (m.admin up).decided; doing = h })))) long

  pub ended : (reply : Reply) → (Some reply ≡ Some replies.Fault → IsTooLong decl (state acts))
      → Goes ((replies_with net.admin reply))
  ended reply long = stays Resting (replies_with net.admin reply) refl refl refl tt long

  pub nothing : Goes ((moved net.admin quiet))
  nothing =
      stays net.admin.doing (moved net.admin quiet) refl refl refl (m.admin up).doing
      (λ is. absurd (let never : ⊥ = cc in never))

  -- Installs

  pub installs_sent : (v : State) (ms : List Envelope) (x : Admin) (d : EpochStart) (closed awaited : List ℕ)
      (calls : List Call) (done : List ℕ) (n : ℕ) (sites : List ℕ)
      → IsPlanned decl x.epoch → DecidedMirrors decl v x.epoch x.decided
      → AdminMirrors decl v ms (all_sent (doing x (Installing closed awaited calls done)) n (map (install_of d) sites))
  installs_sent v ms x d closed awaited calls done n [] planned decided =
      record { planned = planned; decided = decided; doing = tt }
  installs_sent v ms x d closed awaited calls done n (site ∷ sites) planned decided =
      installs_sent v ms x d closed awaited (with_call calls n site) done (n + 1) sites planned decided

  pub installs_backed : (v : State) (d : EpochStart) → IsDecided decl v d.epoch d.clock d.lines → (p : Posting)
      → In p (install_sends decl d) → Backed decl v net.mail (administrator decl) p.to p.message
  installs_backed v d h p among =
      let r : Mapped (install_of d) p (all_sites decl) = map_in (install_of d) p (all_sites decl) among in
      subst (λ (x : Posting). Backed decl v net.mail (administrator decl) x.to x.message) (sym r.is) h

  -- the decided epoch once more
  pub again_case : (o : Option EpochStart) → net.admin.decided ≡ o → Goes ((again decl net.admin o))
  again_case None is = ended (replies.Order net.admin.epoch) (λ is. absurd (let never : ⊥ = cc in never))
  again_case (Some d) is =
      let h : DecidedMirrors decl (state acts) net.admin.epoch (Some d) =
      subst (λ (o : Option EpochStart). DecidedMirrors decl (state acts) net.admin.epoch o) is
      (m.admin up).decided in
      rests (again decl net.admin (Some d)) refl refl (installs_backed (state acts) d h.1)
      (installs_sent (state acts) (net.mail ++ more_of (again decl net.admin (Some d))) net.admin d [] (all_sites decl)
      [] [] (length net.mail) (all_sites decl) (m.admin up).planned (m.admin up).decided)
      (λ is. absurd (let never : ⊥ = cc in never))
