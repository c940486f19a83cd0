-- The machine value of a `Claim`. It may go to another thread, and so be shared, as there is nothing to do with it by
-- reference.
use Rattle.std.proofs.Common.{◌≡◌, List, [], ◌∷◌, ◌++◌, ap, ◌∙◌}
use mir.Val.{Val, vstruct, vcons, vnil, of_list}
use denote.Laws.{Is}
use denote.Param.Send.{IsSend, IsSync, part_keyless}
use denote.RattleType.{RattleType}
use Rattle.atomic_table.proofs.Fields.{token_val, pin_told}
use Rattle.atomic_table.proofs.Sent.{badge_keyless}
use Rattle.atomic_table.specs.contracts.badge.Badge as badge
use Rattle.task_word.specs.contracts.rule.View as view
use Rattle.task_word.specs.contracts.tokens.claim.Claim as claim

abbrev pub claim_val : Val
claim_val = vstruct (vcons token_val vnil)

abbrev Badge : RattleType
Badge = badge.the_row view.the_row

pub badge_told : (b : Badge.Denot) (vs : List Val) → Is Badge b vs → vs ≡ token_val ∷ []
badge_told b vs so = pin_told view.the_row vs so.0

pub claim_told : (d : claim.the_row.Denot) (vs : List Val) → Is claim.the_row d vs → vs ≡ claim_val ∷ []
claim_told d vs so = let is = so.0 in
    is.1.0 ∙ ap (λ (ws : List Val). vstruct (of_list (ws ++ [])) ∷ []) (badge_told d.badge is.0.0 is.1.1.0)

pub claim_send : IsSend claim.the_row
claim_send = record {
  owned = λ d vs. let b = d.badge in (
    (λ vss. (
      tt,
      (
        (
          (λ uss. (tt, ((λ wss. (tt, tt)), tt))),
          badge_keyless view.the_row.coded.code b.table_id b.id b.views,
        ),
        tt,
      ),
    )),
    tt,
  );
  leaving = λ k x vs. (tt, tt);
}

pub claim_sync : IsSync claim.the_row
claim_sync = record { shared = λ d b o ν q. part_keyless claim.the_row claim_send q d b o }
