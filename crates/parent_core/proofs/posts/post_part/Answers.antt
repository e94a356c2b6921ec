use Rattle.std.proofs.Common.{◌∷◌, [], ◌++◌, ap, ◌∙◌}
use Rattle.parent_core.specs.Posts.{Posted}
use Rattle.parent_core.proofs.Sends.{sent_more}
use Rattle.parent_core.proofs.posts.post_part.Goals as goal

pub returns : goal.returns
returns c =
    let posts = c.args.posts.now.items in
    sent_more posts c.push.new.self.items (record { to = c.args.to; part = c.args.part }) (c.in_ok-push.ensures.items ∙ ap (λ (a : Posted). posts ++ a ∷ []) c.in_ok-new.ensures)
