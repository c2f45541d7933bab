-- What the administrator does where he waits, ends, installs, asks or decides: an act of the machine where he decides,
-- and none otherwise.
use Rattle.std.proofs.Common.{[], ◌≡◌, ◌≢◌, ℕ, zero, suc, ◌==◌, nat_le, Bool, true, false, cond, inl, inr, List}
use Rattle.std.proofs.Common.{◌∷◌, ◌++◌, length, map, take, Option, Some, None, refl, sym, subst}
use Rattle.qc_stamp.specs.declared.stamp.TxId.{TxId}
use Rattle.qc_list.specs.Vocabulary.{In}
use Rattle.qc_decl.specs.declared.declaration.Declaration.{Declaration}
use Rattle.qc_decl.specs.Vocabulary.{administrator, most_record_bytes}
use Rattle.theory_onecopy.proofs.Lists.{Mapped, map_in}
use Rattle.qc_msg.specs.declared.message.Envelope.{Envelope}
use Rattle.qc_msg.specs.declared.message.Outcome.{Outcome}
use Rattle.qc_msg.specs.declared.reply.Reply.TheVariants as replies
use Rattle.qc_msg.specs.declared.turn.Posting.{Posting}
use Rattle.qc_msg.specs.Vocabulary.{envelopes, epoch_length}
use Rattle.theory_machine.specs.Vocabulary.{Act, Decide, Decision, IsRun, NotBegun, State, after_act, state}
use Rattle.qc_epoch.specs.Vocabulary.{Admin, AdminMove, Asking, Question, ShutSite, all_sites, ask_of, asks}
use Rattle.qc_msg.specs.declared.payload.EpochStart.{EpochStart}
use Rattle.qc_epoch.specs.Vocabulary.{decides, decision, doing, first_doubt, greatest, install_sends, installing}
use Rattle.qc_epoch.specs.Vocabulary.{merged, most_asks, moved, questions_of, replies_with, settles, settles_by}
use Rattle.laws_refinement.specs.Vocabulary.{AdminMirrors, AreEnough, AreSnapshots, Backed, Continues, IsCovered}
use Rattle.laws_refinement.specs.Vocabulary.{IsDecided, IsNumbered, IsPendingRule, IsPlanned, IsTaken, IsTooLong}
use Rattle.laws_refinement.specs.Vocabulary.{Mirrors, Net, QuestionMirrors, RulesMirror, after_admin}
use Rattle.qc_msg.specs.declared.record.Record.{Record}
use Rattle.qc_msg.specs.declared.record.Record.TheVariants as records
use Rattle.qc_msg.specs.Vocabulary.{start_with}
use Rattle.laws_refinement.proofs.Nets.{admin_net}
use Rattle.laws_refinement.proofs.Asks.{numbers_cover, questions_cover, questions_new, take_begins}
use Rattle.laws_refinement.proofs.Decides.{decision_of, may_decide}
use Rattle.laws_refinement.proofs.MessagesStay.{Later, question_later, same_state}
use Rattle.laws_refinement.proofs.Merged.{merged_ascends}
use Rattle.laws_refinement.proofs.Posts.{at_number}
use Rattle.laws_refinement.proofs.AdminRounds.{asking_sent, asks_sent}
use Rattle.laws_refinement.proofs.AdminStands.{rule_more, IsInTurn, shown, alone, rests, ended, installs_sent}
use Rattle.laws_refinement.proofs.AdminStands.{installs_backed}

module _ (decl : Declaration) (acts : List Act) (net : Net) (run : IsRun decl acts) (m : Mirrors decl (state acts) net)
    (up : net.up (administrator decl) ≡ true) where
  -- the machine goes along with a turn; were its record written as he falls, it would decide; and a fault is told of a
  -- decision that is too long alone
  abbrev Goes : AdminMove → Type 0
  Goes move = Continues decl acts (after_admin decl net move)
      × ((r : Record) → move.turn.write ≡ Some r
      → IsPendingRule decl (state acts) (Some r) × (move.turn.failed_sends ≡ []))
      × IsInTurn net.admin.epoch move
      × (move.turn.told ≡ Some replies.Fault → IsTooLong decl (state acts))

  -- an epoch is decided

  decides_case : (k : ℕ) (shuts : List ShutSite) (questions : List Question) (closed : List ℕ) → k ≡ suc net.admin.epoch
      → IsPlanned decl k → AreEnough decl net.admin.epoch shuts → AreSnapshots decl (state acts) k shuts
      → IsCovered shuts questions
      → ((q : Question) → In q questions → QuestionMirrors decl (state acts) net.mail q) → first_doubt questions ≡ None
      → Goes ((decides decl net.admin (decision k shuts questions) closed))
  decides_case k shuts questions closed next planned enough told covered each none =
      by (nat_le (epoch_length (merged shuts questions)) most_record_bytes) refl
    where
      d : Decision
      d = decision_of decl (state acts) k net.mail net.admin.epoch shuts questions next enough told covered each none

      v : State
      v =
          after_act (state acts)
          (Decide (decision_of decl (state acts) k net.mail net.admin.epoch shuts questions next enough told covered
          each none))

      later : Later (state acts)
          (after_act (state acts)
          (Decide (decision_of decl (state acts) k net.mail net.admin.epoch shuts questions next enough told covered
          each none)))
      later =
          record {
            born = λ t h. h;
            epoch = λ t h. refl;
            asked = λ t h. h;
            counted = λ x h asked. h;
            granted = λ x h. h;
            votes = λ x h. h;
            verdicts = λ t h. h;
            appends = λ s h. h;
            snapshots = λ s h. h;
            decided = λ x h. inr h;
          }

      is_decided : IsDecided decl
          (after_act (state acts)
          (Decide (decision_of decl (state acts) k net.mail net.admin.epoch shuts questions next enough told covered
          each none))) k (greatest shuts questions) (merged shuts questions)
      is_decided = record {
        decision =
            decision_of decl (state acts) k net.mail net.admin.epoch shuts questions next enough told covered each none;
        decided = inl refl;
        epoch_is = refl;
        clock_is = refl;
        log_is = refl;
        sorted = merged_ascends shuts questions (λ s among. (told s among).sorted);
        planned = planned;
      }

      by : (b : Bool) → nat_le (epoch_length (merged shuts questions)) most_record_bytes ≡ b → Goes ((cond b
          (moved (record { epoch = k; decided = Some (decision k shuts questions); doing = installing decl closed })
          (record {
            write =
                Some (records.Decide (start_with k (greatest shuts questions) (merged shuts questions)));
            sends = install_sends decl (decision k shuts questions);
            told = None;
            failed_sends = [];
            failed_told = Some replies.Fault;
            append = Rattle.qc_msg.specs.declared.turn.Appended.TheVariants.Done;
          }))
          (replies_with net.admin replies.Fault)))
      by false long = ended decl acts net run m up replies.Fault (λ is. record {
        decision =
            decision_of decl (state acts) k net.mail net.admin.epoch shuts questions next enough told covered each none;
        may =
            may_decide decl (state acts) k net.mail net.admin.epoch shuts questions next enough told covered each none;
        sorted = merged_ascends shuts questions (λ s among. (told s among).sorted);
        long = long;
      })
      by true short = (
        record {
          more = Decide d ∷ [];
          refines = record {
            run = (
              may_decide decl (state acts) k net.mail net.admin.epoch shuts questions next enough told covered each
                  none,
              run,
            );
            agrees =
                admin_net decl (state acts) v net (after_admin decl net move)
                (install_sends decl (decision k shuts questions)) m (alone decl acts net run m up move) refl
                (record {
                  later = later;
                  keeps = λ c. record {
                    status = λ t h. refl;
                    epoch = λ t h. refl;
                    executed = λ t h. refl;
                    chosen = λ t h. refl;
                    clock = refl;
                    counted = λ x its h. h;
                    more = λ x h. h;
                    votes = λ x h. h;
                    appends = λ x h. h;
                  };
                  records = refl;
                  granted = refl;
                  deeds = refl;
                  lives = refl;
                })
                (shown decl acts net run m up v move
                (installs_sent decl acts net run m up v (net.mail ++ envelopes (administrator decl) (length net.mail)
                (install_sends decl (decision k shuts questions)))
                (record { epoch = k; decided = Some (decision k shuts questions); doing = installing decl closed })
                (decision k shuts questions)
                closed (all_sites decl) [] [] (length net.mail) (all_sites decl) planned (refl, is_decided))
                (subst (λ (o : Option EpochStart). RulesMirror decl v o)
                (sym (rule_more (net.records (administrator decl))
                (records.Decide (start_with k (greatest shuts questions) (merged shuts questions)))))
                (record { planned = planned; decided = (refl, is_decided) })))
                (installs_backed decl acts net run m up v (decision k shuts questions) is_decided);
          };
        },
        (λ r wrote.
            (let e : records.Decide (start_with k (greatest shuts questions) (merged shuts questions)) ≡ r = cc in (
              subst (λ (x : Record). IsPendingRule decl (state acts) (Some x)) e (record {
                decision =
                    decision_of decl (state acts) k net.mail net.admin.epoch shuts questions next enough told covered
                    each none;
                may =
                    may_decide decl (state acts) k net.mail net.admin.epoch shuts questions next enough told covered
                    each none;
                epoch_is = refl;
                clock_is = refl;
                log_is = refl;
                sorted = merged_ascends shuts questions (λ s among. (told s among).sorted);
                planned = planned;
              }),
              refl,
            ))),
        inr (record {
          next = k;
          clock = greatest shuts questions;
          lines = merged shuts questions;
          wrote = refl;
          follows = next;
          then_is = refl;
        }),
        (λ is. absurd (let never : ⊥ = cc in never)),
      )
        where
          move : AdminMove
          move = moved (record {
            epoch = k;
            decided = Some (decision k shuts questions);
            doing = installing decl closed;
          }) (record {
            write = Some (records.Decide (start_with k (greatest shuts questions) (merged shuts questions)));
            sends = install_sends decl (decision k shuts questions);
            told = None;
            failed_sends = [];
            failed_told = Some replies.Fault;
            append = Rattle.qc_msg.specs.declared.turn.Appended.TheVariants.Done;
          })

  pub settles_case : (k : ℕ) (shuts : List ShutSite) (questions : List Question) → k ≡ suc net.admin.epoch
      → IsPlanned decl k → AreEnough decl net.admin.epoch shuts → AreSnapshots decl (state acts) k shuts
      → IsCovered shuts questions
      → ((q : Question) → In q questions → QuestionMirrors decl (state acts) net.mail q)
      → Goes ((settles decl net.admin k shuts questions))
  settles_case k shuts questions next planned enough told covered each = by (first_doubt questions) refl
    where
      by : (o : Option Question) → first_doubt questions ≡ o → Goes ((settles_by decl net.admin k shuts questions o))
      by (Some q) is =
          ended decl acts net run m up (replies.InDoubt q.tx q.site) (λ is. absurd (let never : ⊥ = cc in never))
      by None is =
          decides_case k shuts questions (map (λ (s : ShutSite). s.site) shuts) next planned enough told covered each is

  -- the clients are asked

  pub asks_case : (k : ℕ) (shuts : List ShutSite) → k ≡ suc net.admin.epoch → IsPlanned decl k
      → AreEnough decl net.admin.epoch shuts → AreSnapshots decl (state acts) k shuts
      → Goes ((asks decl net.admin k shuts (questions_of shuts)))
  asks_case k shuts next planned enough told = by (length (questions_of shuts) == 0)
    where
      qs : List Question
      qs = questions_of shuts

      begun : (q : Question) → In q (questions_of shuts) → QuestionMirrors decl (state acts) net.mail q
      begun q among =
          let n = questions_new shuts q among in
          record {
            begun =
                subst (λ (t : TxId). (state acts).status t ≢ NotBegun) (sym (n.2).4)
                ((told (n.2).0 (n.2).2).begun (n.2).1 (n.2).3);
            numbered = subst (λ (o : Option ℕ). IsNumbered decl net.mail q.tx o) (sym n.0) tt;
            taken = subst (λ (o : Option (Option Outcome)). IsTaken (state acts) q.tx o) (sym n.1) tt;
          }

      backed : (p : Posting) → In p (map (ask_of decl) (take most_asks (questions_of shuts)))
          → Backed decl (state acts) net.mail (administrator decl) p.to p.message
      backed p among =
          let r : Mapped (ask_of decl) p (take most_asks (questions_of shuts)) =
          map_in (ask_of decl) p (take most_asks (questions_of shuts)) among in
          subst (λ (x : Posting). Backed decl (state acts) net.mail (administrator decl) x.to x.message) (sym r.is)
          (refl, (begun r.from (taken_in most_asks (questions_of shuts) r.from r.listed)).begun)
        where
          taken_in : (n : ℕ) (xs : List Question) (x : Question) → In x (take n xs) → In x xs
          taken_in zero xs x h = absurd h
          taken_in (suc n) [] x h = absurd h
          taken_in (suc n) (y ∷ ys) x (inl same) = inl same
          taken_in (suc n) (y ∷ ys) x (inr h) = inr (taken_in n ys x h)

      by : (b : Bool) → Goes ((cond b (settles decl net.admin k shuts (questions_of shuts))
          (moved (doing net.admin (Asking k shuts (questions_of shuts)))
          (Rattle.qc_msg.specs.Turns.sending (map (ask_of decl) (take most_asks (questions_of shuts)))))))
      by true = settles_case k shuts (questions_of shuts) next planned enough told (questions_cover shuts) begun
      by false =
          rests decl acts net run m up (moved (doing net.admin (Asking k shuts (questions_of shuts)))
          (Rattle.qc_msg.specs.Turns.sending (map (ask_of decl) (take most_asks (questions_of shuts))))) refl refl
          backed
          (subst (λ (x : Admin). AdminMirrors decl (state acts) all x)
          (sym (asking_sent decl net.admin k shuts (questions_of shuts) (length net.mail)
          (take most_asks (questions_of shuts)))) (record {
            planned = (m.admin up).planned;
            decided = (m.admin up).decided;
            doing = (
              next,
              planned,
              enough,
              told,
              (λ s p among has. numbers_cover (take most_asks (questions_of shuts)) (questions_of shuts)
                  (length net.mail) p.tx (questions_cover shuts s p among has)),
              asks_sent decl (state acts) all (administrator decl) (length net.mail)
                  (take most_asks (questions_of shuts)) [] (questions_of shuts)
                  (take_begins most_asks (questions_of shuts)) (λ q never. absurd never)
                  (λ q among. (
                    (questions_new shuts q among).0,
                    question_later decl (state acts) (state acts) (same_state (state acts)) net.mail
                        (envelopes (administrator decl) (length net.mail)
                        (map (ask_of decl) (take most_asks (questions_of shuts)))) q (begun q among),
                  ))
                  (at_number net.mail (administrator decl) (length net.mail)
                  (map (ask_of decl) (take most_asks (questions_of shuts))) refl),
            );
          })) (λ is. absurd (let never : ⊥ = cc in never))
        where
          all : List Envelope
          all =
              net.mail
              ++ envelopes (administrator decl) (length net.mail)
              (map (ask_of decl) (take most_asks (questions_of shuts)))
