use Rattle.std.proofs.Common.{◌≡◌, ◌+◌, ◌∷◌, drop, sym, ap, ◌∙◌}
use Rattle.std.proofs.lemmas.List.{drop_more}
use Rattle.parent_core.specs.Posts.{Posted}
use Rattle.parent_core.proofs.Sends.{put_next, put_done}
use Rattle.parent_core.proofs.posts.merged.Goals as goal

pub loop-a-preserved : goal.loop-a-preserved
loop-a-preserved c =
    let posts = c.args.posts.now in
    let i = c.loop-a.a-index in
    let is : drop i posts ≡ c.a-item.result ∷ drop (i + 1) posts = drop_more posts i _ c.loop-a-test.true ∙ ap (λ (a : Posted). a ∷ drop (i + 1) posts) (sym c.a-item.is) in
    put_next posts i c.args.p.0 c.a-item.result c.loop-a.parts.items c.put_for.new.parts.items _ is c.in_ok-put_for.ensures c.loop-a.invariant

pub returns : goal.returns
returns c = c.in_ok-of.ensures ∙ put_done c.args.posts.now c.loop-a.a-index c.args.p.0 c.loop-a.parts.items _ c.loop-a-test.false c.loop-a.invariant
