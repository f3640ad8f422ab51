mod FinalLaws
