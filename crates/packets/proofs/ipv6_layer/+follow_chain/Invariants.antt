use Rattle.packets.proofs.ipv6_layer.+follow_chain.Given as goal

-- headers left to follow fall
abbrev pub decreases-follow_chain : goal.decreases-follow_chain
decreases-follow_chain l = l.left
