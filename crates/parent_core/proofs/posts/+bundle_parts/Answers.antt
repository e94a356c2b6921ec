use Rattle.std.proofs.Common.{◌≡◌, ◌∷◌, Some, List, drop, sym, ap, ◌∙◌}
use Rattle.std.proofs.lemmas.List.{drop_more}
use Rattle.wire_msgs.specs.declared.part.DownPart.{DownPart}
use Rattle.parent_core.specs.Posts.{Posted, is_sent_to}
use Rattle.parent_core.proofs.Sends.{none_posted, first_alone_in, first_of_more_in, rest_of}
use Rattle.parent_core.proofs.posts.+bundle_parts.Goals as goal

pub returns-in-empty : goal.returns-in-empty
returns-in-empty t c = none_posted c.args.posts.now c.args.p.0 c.in-empty.len_below

pub returns-in_ok-merged-in-len1-up : goal.returns-in_ok-merged-in-len1-up
returns-in_ok-merged-in-len1-up t c =
    let posts = c.args.posts.now in
    let is : posts ≡ c.first-item.result ∷ drop 1 posts = drop_more posts 0 _ c.in-len1-up.len_at_least ∙ ap (λ (a : Posted). a ∷ drop 1 posts) (sym c.first-item.is) in
    ap (λ (ds : List DownPart). Some ds) c.in_ok-merged-in-len1-up.ensures ∙ first_of_more_in c.first-item.result posts c.args.p.0 is (sym c.is_for.ensures ∙ c.if-not-is_for.false)

pub returns-in_ok-copy-in-len1-up : goal.returns-in_ok-copy-in-len1-up
returns-in_ok-copy-in-len1-up t c =
    let posts = c.args.posts.now in
    let is : posts ≡ c.first-item.result ∷ drop 1 posts = drop_more posts 0 _ c.in-len1-up.len_at_least ∙ ap (λ (a : Posted). a ∷ drop 1 posts) (sym c.first-item.is) in
    ap (λ (ds : List DownPart). Some ds) (c.in_ok-copy-in-len1-up.ensures ∙ c.parts.ensures)
    ∙ first_alone_in c.first-item.result posts c.args.p.0 is (sym c.is_for.ensures ∙ c.if-not-is_for.false) (ap (λ (ps : List Posted). is_sent_to ps c.args.p.0) (sym (rest_of posts)) ∙ sym c.is_sent_to.ensures ∙ c.if-is_sent_to.false)
