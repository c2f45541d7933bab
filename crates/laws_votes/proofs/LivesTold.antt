-- The lives of a begun transaction: which an answer adds, and what grants told them.
use Rattle.std.proofs.Common.{◌≡◌, ◌⊎◌, ℕ, inl, inr, Option, Some, None, option_map, refl, sym, ap, ◌∙◌, subst}
use Rattle.qc_msg.specs.declared.message.Answer.{Answer}
use Rattle.qc_msg.specs.declared.message.Want.{Want}
use Rattle.qc_msg.specs.Vocabulary.{with_life}
use Rattle.qc_promise.specs.Vocabulary.{Account, ClientRequest, Current, account_told_in, answer_of, found_absent}
use Rattle.qc_promise.specs.Vocabulary.{granted, lived, new_current, promised, refused, responded, short_of, told_by}
use Rattle.qc_promise.specs.Vocabulary.{with_read, with_response}
use Rattle.laws_guarantees.proofs.FirstGrants.{KeepsLives, same_lives, life_added}
use Rattle.qc_msg.specs.declared.message.Answer.TheVariants as answers
use Rattle.qc_msg.specs.declared.message.Want.TheVariants.{Append, Prepare, Read}
use Rattle.qc_decl.specs.declared.declaration.Declaration.{Declaration}
use Rattle.qc_msg.specs.declared.reply.Half.{Half}
use Rattle.qc_msg.specs.declared.reply.Half.TheVariants as halves
use Rattle.qc_msg.specs.declared.reply.Reply.{Reply}
use Rattle.qc_msg.specs.declared.reply.Reply.TheVariants as replies
use Rattle.qc_msg.specs.declared.step.Command.{Command}
use Rattle.qc_msg.specs.declared.step.Command.TheVariants as commands
use Rattle.qc_msg.specs.declared.payload.Grant.{Grant}
use Rattle.laws_votes.proofs.LivesAdded.{WasBegunWith, HaveSameLives, same_now, none_now, changed_alike, HasOneMore}

-- what an answer changes: nothing, or a grant of a Read or an Append adds a life
abbrev pub IsChangedBy : Option Current → ℕ → Option Answer → Current → Type 0
IsChangedBy o site answer t =
    WasBegunWith o t ⊎ ((g : Grant) × (answer ≡ Some (answers.Granted g)) × HasOneMore o site g.life t)

pub same_changed : (o : Option Current) (site : ℕ) (answer : Option Answer) (t : Current) → o ≡ Some t
    → IsChangedBy o site answer t
same_changed o site answer t is = inl (t, is, refl, refl)

pub one_changed : (o : Option Current) (site : ℕ) (g : Grant) (change : Current → Current)
    → ((x : Current) → ((change x).tx ≡ x.tx) × ((change x).lives ≡ with_life x.lives site g.life)) → (t : Current)
    → option_map change o ≡ Some t → IsChangedBy o site (Some (answers.Granted g)) t
one_changed None site g change keeps t is = absurd (let never : ⊥ = cc in never)
one_changed (Some x) site g change keeps t is =
    let same : t ≡ change x = cc in
    inr (
      g,
      refl,
      record {
        old = x;
        was = refl;
        its = ap (λ (y : Current). y.tx) same ∙ (keeps x).0;
        lives = ap (λ (y : Current). y.lives) same ∙ (keeps x).1;
      },
    )

pub promised_same : (d : Account) (clock : ℕ) (w : Want) → (promised d clock w).current ≡ d.current
promised_same d clock (Read read) = refl
promised_same d clock (Append object view own) = refl
promised_same d clock Prepare = refl

pub told_changed : (d : Account) (p : ClientRequest) (answer : Option Answer) (t : Current)
    → (told_by d p answer).current ≡ Some t → IsChangedBy d.current p.site answer t
told_changed d p None t is = same_changed d.current p.site None t is
told_changed d p (Some (answers.Granted grant)) t is = by p.want is
  where
    by : (w : Want) → (granted d p.site grant w).current ≡ Some t
        → IsChangedBy d.current p.site (Some (answers.Granted grant)) t
    by (Read read) e =
        one_changed d.current p.site grant
        (λ (x : Current). with_read (lived x p.site grant.life) read.object grant.log) (λ x. (refl, refl)) t e
    by (Append object view own) e =
        one_changed d.current p.site grant (λ (x : Current). lived x p.site grant.life) (λ x. (refl, refl)) t e
    by Prepare e = same_changed d.current p.site (Some (answers.Granted grant)) t e
told_changed d p (Some (answers.Clash holder inv event)) t is =
    same_changed d.current p.site (Some (answers.Clash holder inv event)) t is
told_changed d p (Some (answers.Closed epoch)) t is = same_changed d.current p.site (Some (answers.Closed epoch)) t is
told_changed d p (Some (answers.Behind epoch)) t is = same_changed d.current p.site (Some (answers.Behind epoch)) t is
told_changed d p (Some (answers.Restarted life)) t is =
    same_changed d.current p.site (Some (answers.Restarted life)) t is
told_changed d p (Some answers.Stale) t is = same_changed d.current p.site (Some answers.Stale) t is
told_changed d p (Some answers.Fault) t is = same_changed d.current p.site (Some answers.Fault) t is
told_changed d p (Some (answers.Yes clock)) t is =
    same_changed d.current p.site (Some (answers.Yes clock)) t (sym (promised_same d clock p.want) ∙ is)
told_changed d p (Some (answers.Shut snapshot)) t is =
    same_changed d.current p.site (Some (answers.Shut snapshot)) t is
told_changed d p (Some answers.Installed) t is = same_changed d.current p.site (Some answers.Installed) t is
told_changed d p (Some (answers.Answered verdict)) t is =
    same_changed d.current p.site (Some (answers.Answered verdict)) t is

-- what was begun stays so, and has the lives that it had
pub granted_on : (o : Option Current) (t : Current) (site life : ℕ) (change : Current → Current)
    → ((x : Current) → (change x).lives ≡ with_life x.lives site life) → o ≡ Some t
    → (u : Current) × (option_map change o ≡ Some u) × KeepsLives t.lives u.lives
granted_on o t site life change keeps was =
    (change t, ap (option_map change) was, subst (KeepsLives t.lives) (sym (keeps t)) (life_added t.lives site life))

pub told_forward : (d : Account) (p : ClientRequest) (answer : Option Answer) (t : Current) → d.current ≡ Some t
    → (u : Current) × ((told_by d p answer).current ≡ Some u) × KeepsLives t.lives u.lives
told_forward d p None t was = (t, was, same_lives t.lives)
told_forward d p (Some (answers.Granted grant)) t was = by p.want
  where
    by : (w : Want)
        → (u : Current) × ((granted d p.site grant w).current ≡ Some u)
        × KeepsLives t.lives u.lives
    by (Read read) =
        granted_on d.current t p.site grant.life
        (λ (x : Current). with_read (lived x p.site grant.life) read.object grant.log) (λ x. refl) was
    by (Append object view own) =
        granted_on d.current t p.site grant.life (λ (x : Current). lived x p.site grant.life) (λ x. refl) was
    by Prepare = (t, was, same_lives t.lives)
told_forward d p (Some (answers.Clash holder inv event)) t was = (t, was, same_lives t.lives)
told_forward d p (Some (answers.Closed epoch)) t was = (t, was, same_lives t.lives)
told_forward d p (Some (answers.Behind epoch)) t was = (t, was, same_lives t.lives)
told_forward d p (Some (answers.Restarted life)) t was = (t, was, same_lives t.lives)
told_forward d p (Some answers.Stale) t was = (t, was, same_lives t.lives)
told_forward d p (Some answers.Fault) t was = (t, was, same_lives t.lives)
told_forward d p (Some (answers.Yes clock)) t was = (t, promised_same d clock p.want ∙ was, same_lives t.lives)
told_forward d p (Some (answers.Shut snapshot)) t was = (t, was, same_lives t.lives)
told_forward d p (Some answers.Installed) t was = (t, was, same_lives t.lives)
told_forward d p (Some (answers.Answered verdict)) t was = (t, was, same_lives t.lives)

module _ (decl : Declaration) where
  -- a reply

  response_alike : (object inv : ℕ) (o : Option ℕ) (x : Current)
      → ((with_response decl x object inv o).tx ≡ x.tx) × ((with_response decl x object inv o).lives ≡ x.lives)
  response_alike object inv None x = (refl, refl)
  response_alike object inv (Some event) x = (refl, refl)

  responded_alike : (d : Account) (c : Option Command) → HaveSameLives d.current (responded decl d c).current
  responded_alike d None = same_now d.current d.current refl
  responded_alike d (Some commands.Begin) = same_now d.current d.current refl
  responded_alike d (Some (commands.Do object inv)) =
      changed_alike d.current (λ (t : Current). with_response decl t object inv (answer_of decl t object inv))
      (λ x. response_alike object inv (answer_of decl x object inv) x)
  responded_alike d (Some commands.Commit) = same_now d.current d.current refl
  responded_alike d (Some commands.Abort) = same_now d.current d.current refl
  responded_alike d (Some (commands.Epoch number)) = same_now d.current d.current refl

  absent_alike : (d : Account) (c : Option Command) → HaveSameLives d.current (found_absent d c).current
  absent_alike d None = same_now d.current d.current refl
  absent_alike d (Some commands.Begin) = same_now d.current d.current refl
  absent_alike d (Some (commands.Do object inv)) = changed_alike d.current _ (λ x. (refl, refl))
  absent_alike d (Some commands.Commit) = same_now d.current d.current refl
  absent_alike d (Some commands.Abort) = same_now d.current d.current refl
  absent_alike d (Some (commands.Epoch number)) = same_now d.current d.current refl

  short_alike : (d : Account) (half : Half) → HaveSameLives d.current (short_of d half).current
  short_alike d halves.Read = same_now d.current d.current refl
  short_alike d halves.Append = changed_alike d.current _ (λ x. (refl, refl))
  short_alike d halves.Close = same_now d.current d.current refl

  refused_alike : (d : Account) → HaveSameLives d.current (refused d).current
  refused_alike d = changed_alike d.current _ (λ x. (refl, refl))

  pub told_alike : (d : Account) (reply : Reply) → HaveSameLives d.current (account_told_in decl d reply).current
  told_alike d replies.Down = same_now d.current d.current refl
  told_alike d (replies.Already tx) = same_now d.current d.current refl
  told_alike d (replies.Began tx) =
      λ t at. inr (let same : t ≡ new_current tx d.known = cc in ap (λ (y : Current). y.lives) same)
  told_alike d replies.NoTransaction = same_now d.current d.current refl
  told_alike d replies.Doomed = same_now d.current d.current refl
  told_alike d replies.TooLong = same_now d.current d.current refl
  told_alike d (replies.Closed epoch site) = refused_alike d
  told_alike d (replies.Conflict tx site) = refused_alike d
  told_alike d (replies.Quorum half got need) = short_alike d half
  told_alike d replies.Absent = absent_alike d d.command
  told_alike d (replies.Response resp) = responded_alike d d.command
  told_alike d (replies.Aborted why) = none_now d.current None refl
  told_alike d replies.Unknown = none_now d.current None refl
  told_alike d (replies.Committed stamp) = none_now d.current None refl
  told_alike d replies.Dropped = none_now d.current None refl
  told_alike d (replies.Order current) = same_now d.current d.current refl
  told_alike d (replies.InDoubt tx site) = same_now d.current d.current refl
  told_alike d replies.Fault = same_now d.current d.current refl
  told_alike d (replies.Moved closed installed) = same_now d.current d.current refl
