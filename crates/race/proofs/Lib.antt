mod RaceLaws
