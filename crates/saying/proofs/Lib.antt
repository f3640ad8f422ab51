mod SayLaws
